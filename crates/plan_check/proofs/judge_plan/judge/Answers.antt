use Rattle.std.proofs.Common.{subst}
use Rattle.plan_check.specs.Verdicts.{IsIllegalOver}
use Rattle.plan_check.specs.Verdicts.IsVerdict.{illegal}
use Rattle.plan_check.proofs.judge_plan.judge.Goals as goal

pub returns-in-Some : goal.returns-in-Some
returns-in-Some c =
    illegal c.in-Some.fault
    (subst (λ known. IsIllegalOver c.args.schema.now c.args.statement.now c.args.plan.now known c.in-Some.fault) c.in_ok-known.ensures.order c.in-Some.ensures.some)
