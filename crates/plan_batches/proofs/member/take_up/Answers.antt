use Rattle.std.proofs.Common.{◌∙◌, ◌++◌, List, ℕ, ap, subst}
use Rattle.std.specs.Prelude.{Contains}
use Rattle.plan_batches.specs.Members.{TakesCourse}
use Rattle.plan_batches.proofs.member.take_up.Goals as goal

pub course_after-requires-clause-numbers : goal.course_after-requires-clause-numbers
course_after-requires-clause-numbers c = λ number among.
    c.requires.numbers number (subst (λ (l : List ℕ). Contains l number) c.as_slice.ensures.value among)

pub returns : goal.returns
returns c = record {
  wanted = c.in_ok-extend_from_slice.ensures.items ∙ ap (λ (l : List ℕ). c.args.going.wanted.items ++ l) c.as_slice-2.ensures.value;
  course = subst (λ (l : List ℕ). TakesCourse c.args.kept.now c.args.plan.now c.args.going.next l c.in_ok-course.course) c.as_slice.ensures.value c.in_ok-course.ensures;
}
