use Rattle.std.proofs.Common.{◌<◌, ◌≤◌, ℕ, slice_index_or}
use Rattle.homomorphism.proofs.groups.have_some.Given as goal

abbrev pub invariant-loop-part : goal.invariant-loop-part
invariant-loop-part l = (i : ℕ) → i < l.part → (0 < slice_index_or l.counts i 0) × (slice_index_or l.counts i 0 ≤ slice_index_or l.whole i 0)
