use Rattle.std.proofs.Common.{arith}
use Rattle.plan_batches.proofs.Listing.{most_more}
use Rattle.plan_batches.proofs.rounds.most_steps.Goals as goal

pub loop-plan-preserved : goal.loop-plan-preserved
loop-plan-preserved c =
    let more = most_more c.args.plans.now c.loop-plan.plan-index c.plan-item.result (omega arith) c.plan-item.is c.loop-plan.most c.count_steps.result c.loop-plan.invariant c.count_steps.ensures in
    let h = c.max-most.ensures in
    grind (arith, more, h)
