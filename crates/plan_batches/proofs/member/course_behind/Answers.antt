use Rattle.std.proofs.Common.{refl}
use Rattle.plan_course.specs.declared.turns.Next.TheVariants as next
use Rattle.plan_batches.proofs.Taking.{took_answers}
use Rattle.plan_batches.proofs.member.course_behind.Goals as goal

pub returns : goal.returns
returns c =
    took_answers c.args.kept.now c.args.plan.now (next.Wants c.args.pending) c.args.pending refl c.args.numbers.now c.in_ok-answers.answers c.in_ok-answers.ensures
    c.take.result c.take.ensures.at c.take.ensures.knows
