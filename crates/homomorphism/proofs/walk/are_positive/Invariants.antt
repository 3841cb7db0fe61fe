use Rattle.std.proofs.Common.{◌<◌, ℕ, slice_index_or}
use Rattle.homomorphism.proofs.walk.are_positive.Given as goal

abbrev pub invariant-loop-number : goal.invariant-loop-number
invariant-loop-number l = (i : ℕ) → i < l.number-index → 0 < slice_index_or l.numbers i 0
