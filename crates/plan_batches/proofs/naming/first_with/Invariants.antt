use Rattle.std.proofs.Common.{◌≡◌, ℕ, ◌<◌, Some}
use Rattle.std.specs.Prelude.{Contains, slice_get}
use Rattle.plan_batches.specs.declared.member.Going.{Going}
use Rattle.plan_batches.proofs.naming.first_with.Given as goal

-- none of the plans before wants the number
abbrev pub invariant-loop-going : goal.invariant-loop-going
invariant-loop-going l = record {
  plan : l.plan ≡ l.going-index;
  before : (k : ℕ) (other : Going) → k < l.going-index → slice_get l.goings k ≡ Some other → Contains other.numbers.items l.number → ⊥;
}
