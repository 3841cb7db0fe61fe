use Rattle.std.proofs.Common.{sym, subst}
use Rattle.access_schema.specs.Meaning.{meaning_of}
use Rattle.plan_check.specs.Verdicts.{IsConclusion}
use Rattle.plan_check.specs.Verdicts.IsConclusion.{lost}
use Rattle.plan_check.proofs.Concluding.{concluded}
use Rattle.plan_check.proofs.judge_plan.try_both.Goals as goal

pub returns-in-Separated : goal.returns-in-Separated
returns-in-Separated c = lost c.in-Separated.instance c.in-Separated.row (rw c.in-Separated.is at c.in_ok-lost.ensures)

pub returns-in_ok-added-in_default : goal.returns-in_ok-added-in_default
returns-in_ok-added-in_default c =
    subst (IsConclusion (meaning_of c.args.schema.now) c.args.selects.now c.args.branches.now c.args.firings) (sym c.conclude.ensures)
    (concluded (meaning_of c.args.schema.now) c.args.selects.now c.args.branches.now c.args.firings c.in_ok-lost.lost c.in_ok-added-in_default.added c.in_ok-lost.ensures c.in_ok-added-in_default.ensures)
