use Rattle.access_schema.specs.Meaning.{meaning_of}
use Rattle.access_schema.proofs.Summing.{summed_none, summed_step, summed_all}
use Rattle.access_schema.proofs.costs.cost.Goals as goal

pub loop-left-init : goal.loop-left-init
loop-left-init c = summed_none (meaning_of c.args.schema.now) c.args.branch.now.steps c.as_slice-left.result.now c.requires.named c.as_slice-left.ensures

pub loop-left-preserved : goal.loop-left-preserved
loop-left-preserved c =
    summed_step (meaning_of c.args.schema.now) c.args.branch.now.steps c.loop-left.left.now c.step-item.result c.method_cost.result c.loop-left.sum c.in-len1-up.len_at_least c.step-item.is
    c.method_cost.ensures.cost c.method_cost.ensures.limit c.loop-left.invariant

pub returns : goal.returns
returns c = summed_all (meaning_of c.args.schema.now) c.args.branch.now.steps c.loop-left.left.now c.loop-left.sum c.in_default.len_below c.loop-left.invariant
