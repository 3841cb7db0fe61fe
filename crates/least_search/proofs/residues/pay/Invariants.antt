use Rattle.std.proofs.Common.{◌≡◌, ◌<◌, ◌≤◌, ℕ, length, slice_index_or}
use Rattle.least_search.specs.Sides.{HasPaid, no_residue}
use Rattle.least_search.proofs.residues.pay.Given as goal

-- the moves below the index have paid, and the others are as they were
abbrev pub invariant-loop-residue : goal.invariant-loop-residue
invariant-loop-residue g l = record {
  same : length l.residues ≡ length l.fn.residues;
  paid : (k : ℕ) → k < l.residue-index → HasPaid (g.S.Space.CanMove l.space) l.side.set.items l.weight (slice_index_or l.fn.residues k no_residue) (slice_index_or l.residues k no_residue);
  later : (k : ℕ) → l.residue-index ≤ k → slice_index_or l.residues k no_residue ≡ slice_index_or l.fn.residues k no_residue;
}
