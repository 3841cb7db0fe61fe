use Rattle.std.proofs.Common.{take, ◌≡◌}
use Rattle.meaning.specs.declared.types.Method.{Method}
use Rattle.no_plan_witness.specs.Gathering.{KnowsInputs}
use Rattle.no_plan_witness.proofs.Turns.{EachOf}
use Rattle.no_plan_witness.proofs.accessible.can_access.Given as goal

-- none of the methods so far gives the fact
abbrev pub invariant-loop-method : goal.invariant-loop-method
invariant-loop-method l = EachOf (λ (method : Method). (method.rel ≡ l.fact.rel) × KnowsInputs l.constants l.earlier l.fact.row method.inputs → ⊥) (take l.method-index l.method-items)
