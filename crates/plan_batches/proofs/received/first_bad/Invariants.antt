use Rattle.std.proofs.Common.{◌≡◌, ℕ, ◌<◌, ◌++◌, Some}
use Rattle.std.specs.Prelude.{slice_get}
use Rattle.plan_batches.specs.Receiving.{HasIntegers}
use Rattle.plan_batches.specs.declared.member.Going.{Going}
use Rattle.plan_batches.proofs.received.first_bad.Given as goal

-- none of the steps before received a bad number
abbrev pub invariant-loop-going : goal.invariant-loop-going
invariant-loop-going l = record {
  plan : l.plan ≡ l.going-index;
  before : (k : ℕ) (other : Going) → k < l.going-index → slice_get l.goings k ≡ Some other → HasIntegers l.schema (l.kept ++ l.round) other;
}
