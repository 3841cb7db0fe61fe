use Rattle.std.proofs.Common.{◌<◌, ℕ, slice_index_or}
use Rattle.homomorphism.proofs.parts.are_below.Given as goal

abbrev pub invariant-loop-number : goal.invariant-loop-number
invariant-loop-number l = (n : ℕ) → n < l.number-index → slice_index_or l.numbers n 0 < l.count
