use Rattle.std.proofs.Common.{◌≡◌, ◌+◌, refl, ap, arith}
use Rattle.std.specs.Prelude.{take}
use Rattle.std.proofs.lemmas.Result.{IfOk-weaker}
use Rattle.shared_rounds.specs.SharedRounds.{steps_in}
use Rattle.plan_course.specs.declared.course.Course.{Course}
use Rattle.plan_course.proofs.Numbers.{take_none}
use Rattle.plan_course.proofs.Standing.{knows_first, settled_at}
use Rattle.plan_course.proofs.course.Course.start.Goals as goal

pub returns-clause-at : goal.returns-clause-at
returns-clause-at c =
    let first : Course = record { branch = 0; step = 0; count = 0; blocks = c.new.result; rows = c.new-2.result } in
    let e = ap steps_in (take_none c.args.plan.now.branches) in
    let none : steps_in (take 0 c.args.plan.now.branches) + 0 ≡ 0 = omega (arith, e) in
    IfOk-weaker c.settle.result _ _ (λ next s. settled_at c.args.plan.now first next 0 s none) c.settle.ensures.settles

pub returns-clause-knows : goal.returns-clause-knows
returns-clause-knows c =
    let first : Course = record { branch = 0; step = 0; count = 0; blocks = c.new.result; rows = c.new-2.result } in
    IfOk-weaker c.settle.result _ _
    (λ next knows schema facts well ready. knows schema facts well ready
    (knows_first schema facts c.args.plan.now well first (record { step_is = refl; count_is = refl; blocks_are = c.new.ensures.items })
    refl c.new-2.ensures))
    c.settle.ensures.knows
