use Rattle.lists.proofs.Booleans.{test_fails}
use Rattle.no_plan_witness.specs.Gathering.{KnowsAt}
use Rattle.homomorphism.proofs.AtomByAtom.{is_among}
use Rattle.no_plan_witness.proofs.Turns.{each_more, number_is, true_says, false_says}
use Rattle.no_plan_witness.proofs.accessible.knows_inputs.Goals as goal

pub returns-then-not-knows_at : goal.returns-then-not-knows_at
returns-then-not-knows_at c = test_fails (λ all. false_says c.if-not-knows_at.ensures (all _ (is_among _ _ _ c.loop-input-test.true (number_is _ _ c.loop-input-test.true))))

pub loop-input-preserved : goal.loop-input-preserved
loop-input-preserved c = each_more (KnowsAt c.args.constants.now c.args.earlier.now c.args.row.now) _ _ _ c.loop-input-test.true (number_is _ _ c.loop-input-test.true) c.loop-input.invariant (true_says c.if-not-knows_at.ensures)
