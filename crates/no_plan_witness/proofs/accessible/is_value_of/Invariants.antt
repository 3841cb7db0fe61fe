use Rattle.std.proofs.Common.{Contains, take}
use Rattle.meaning.specs.declared.types.Fact.{Fact}
use Rattle.no_plan_witness.proofs.Turns.{EachOf}
use Rattle.no_plan_witness.proofs.accessible.is_value_of.Given as goal

-- the value is in none of the facts so far
abbrev pub invariant-loop-fact : goal.invariant-loop-fact
invariant-loop-fact l = EachOf (λ (fact : Fact). Contains fact.row l.value → ⊥) (take l.fact-index l.facts)
