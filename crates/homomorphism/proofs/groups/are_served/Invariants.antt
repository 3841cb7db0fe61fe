use Rattle.std.proofs.Common.{◌<◌, [], ℕ, slice_index_or}
use Rattle.homomorphism.specs.Walks.{IsServed}
use Rattle.homomorphism.specs.Widening.{taken}
use Rattle.homomorphism.proofs.groups.are_served.Given as goal

abbrev pub invariant-loop-place : goal.invariant-loop-place
invariant-loop-place l = (i : ℕ) → i < l.place → IsServed l.owners l.whole l.groups (taken l.atoms (slice_index_or l.runs i []))
