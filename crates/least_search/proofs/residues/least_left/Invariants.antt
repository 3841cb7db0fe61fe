use Rattle.std.proofs.Common.{take}
use Rattle.least_search.specs.Sides.{LeastOf}
use Rattle.least_search.proofs.residues.least_left.Given as goal

abbrev pub invariant-loop-residue : goal.invariant-loop-residue
invariant-loop-residue g l = LeastOf (g.S.Space.CanMove l.space) l.side.set.items (take l.residue-index l.residues) l.least
