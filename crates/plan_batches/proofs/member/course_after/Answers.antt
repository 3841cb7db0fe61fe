use Rattle.std.proofs.Common.{subst, sym}
use Rattle.std.specs.Prelude.{IfOk}
use Rattle.plan_course.specs.Turns.{IsNext}
use Rattle.plan_course.specs.declared.turns.Next.{Next}
use Rattle.plan_batches.specs.Members.{TakesCourse}
use Rattle.plan_batches.proofs.Taking.{took_nothing}
use Rattle.plan_batches.proofs.member.course_after.Goals as goal

pub course_behind-requires-clause-asked : goal.course_behind-requires-clause-asked
course_behind-requires-clause-asked c =
    let (schema, course, is) = c.requires.asked in
    (schema, course, subst (λ (x : Next). IsNext schema c.args.plan.now course x) c.in-Wants.is is)

pub returns-in-Wants : goal.returns-in-Wants
returns-in-Wants c =
    subst (λ (x : Next). IfOk c.course_behind.result (TakesCourse c.args.kept.now c.args.plan.now x c.args.numbers.now)) (sym c.in-Wants.is) c.course_behind.ensures

pub returns-in-Done : goal.returns-in-Done
returns-in-Done c = took_nothing c.args.kept.now c.args.plan.now c.args.next c.in-Done.course c.in-Done.is c.args.numbers.now
