use Rattle.std.proofs.Common.{arith}
use Rattle.middleware.proofs.Accessing.{steps_none, steps_more, steps_all}
use Rattle.middleware.proofs.accesses.add_relations.Goals as goal

pub loop-step-init : goal.loop-step-init
loop-step-init c = λ rel. steps_none c.args.schema.now c.args.into.now.items rel

pub loop-step-preserved : goal.loop-step-preserved
loop-step-preserved c = λ rel.
    steps_more c.args.schema.now c.args.steps.now c.loop-step.step-index c.step-item.result (omega arith) c.step-item.is c.args.into.now.items c.loop-step.into.items c.add_relation.new.into.items
    c.loop-step.invariant c.in_ok-add_relation.ensures rel

pub returns : goal.returns
returns c = λ rel. steps_all c.args.schema.now c.args.steps.now c.loop-step.step-index (omega arith) c.args.into.now.items c.loop-step.into.items c.loop-step.invariant rel
