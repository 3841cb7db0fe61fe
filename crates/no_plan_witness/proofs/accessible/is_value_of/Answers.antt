use Rattle.std.proofs.Common.{Contains}
use Rattle.lists.proofs.Booleans.{test_fails}
use Rattle.meaning.specs.declared.types.Fact.{Fact}
use Rattle.no_plan_witness.proofs.Turns.{each_more, each_all, false_says}
use Rattle.no_plan_witness.proofs.accessible.is_value_of.Goals as goal

pub loop-fact-preserved : goal.loop-fact-preserved
loop-fact-preserved c = each_more (λ (fact : Fact). Contains fact.row c.args.value.now → ⊥) _ _ _ c.loop-fact-test.true c.fact-item.is c.loop-fact.invariant (false_says (rw c.as_slice.ensures at c.if-has.ensures))

pub returns : goal.returns
returns c = test_fails (λ (fact, among, in_row). each_all (λ (fact : Fact). Contains fact.row c.args.value.now → ⊥) _ _ c.loop-fact-test.false c.loop-fact.invariant fact among in_row)
