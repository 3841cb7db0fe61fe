use Rattle.std.proofs.Common.{refl}
use Rattle.sql_select.specs.Limits.{IsWithinLimits}
use Rattle.sql_select.specs.Spanning.{SelectStands}
use Rattle.sql_select.proofs.Answering.{rest_all, means_on, faults_on, means_all, here_first}
use Rattle.sql_select.proofs.statement.resolve_selects.Goals as goal

pub returns-in-Err-clause-fault : goal.returns-in-Err-clause-fault
returns-in-Err-clause-fault c = here_first c.args.relations.now c.args.text.now c.args.raws.now c.loop-left.left.now c.raw-item.result c.in-Err.fault c.in-len1-up.len_at_least c.raw-item.is c.loop-left.invariant.faults c.in-Err.ensures.fault

pub loop-left-preserved : goal.loop-left-preserved
loop-left-preserved c = record {
  stand = rest_all (SelectStands c.args.text.now) c.loop-left.left.now _ c.loop-left.invariant.stand c.in-len1-up.len_at_least refl;
  within = rest_all IsWithinLimits c.loop-left.left.now _ c.loop-left.invariant.within c.in-len1-up.len_at_least refl;
  means = means_on c.args.relations.now c.args.text.now c.args.raws.now c.loop-left.left.now _ c.raw-item.result c.loop-left.selects _ c.in-Ok.select c.in-len1-up.len_at_least c.raw-item.is refl c.in-Ok.ensures.means c.in_ok-push-in-Ok.ensures.ok c.loop-left.invariant.means;
  faults = faults_on c.args.relations.now c.args.text.now c.args.raws.now c.loop-left.left.now _ c.raw-item.result c.in-Ok.select c.in-len1-up.len_at_least c.raw-item.is refl c.in-Ok.ensures.means c.loop-left.invariant.faults;
}

pub returns-clause-means : goal.returns-clause-means
returns-clause-means c = means_all c.args.relations.now c.args.text.now c.args.raws.now c.loop-left.left.now c.loop-left.selects c.in_default.len_below c.loop-left.invariant.means
