use Rattle.std.proofs.Common.{◌≡◌, ℕ, ◌<◌, Some}
use Rattle.std.specs.Prelude.{Contains, slice_get}
use Rattle.plan_batches.specs.declared.needs.Accessed.{Accessed}
use Rattle.plan_batches.proofs.needs.first_on.Given as goal

-- none of those before has the relation
abbrev pub invariant-loop-one : goal.invariant-loop-one
invariant-loop-one l = record {
  number : l.number ≡ l.one-index;
  before : (k : ℕ) (other : Accessed) → k < l.one-index → slice_get l.each k ≡ Some other → Contains other.rels.items l.rel → ⊥;
}
