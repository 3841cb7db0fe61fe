use Rattle.std.proofs.Common.{◌≡◌, slice_index_or}
use Rattle.homomorphism.specs.Bindings.{at, values_of}
use Rattle.homomorphism.specs.Walks.{picked_of}
use Rattle.homomorphism.proofs.walk.brought_together.Given as goal

abbrev pub invariant-loop-variable : goal.invariant-loop-variable
invariant-loop-variable l = l.values.items ≡ values_of l.variable (λ x. at (picked_of l.lists l.numbers (slice_index_or l.owners x 0)).vals x)
