use Rattle.std.proofs.Common.{◌≡◌, ◌<◌, ℕ, [], length, slice_index_or}
use Rattle.homomorphism.specs.Walks.{IsPart}
use Rattle.homomorphism.proofs.parts.apart.Given as goal

abbrev pub invariant-loop-part : goal.invariant-loop-part
invariant-loop-part l = record {
  count : length l.givens ≡ l.part;
  each : (i : ℕ) → i < l.part → IsPart l.atoms l.start l.owners.items i (slice_index_or l.fn.runs.items i []) (slice_index_or l.givens i []);
}
