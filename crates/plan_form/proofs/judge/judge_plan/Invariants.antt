use Rattle.std.proofs.Common.{◌≡◌, ◌≤◌, ◌+◌, length}
use Rattle.std.specs.List.{AllByRecursion}
use Rattle.access_schema.specs.Meaning.{meaning_of}
use Rattle.plan_form.specs.Judging.{judged_branches}
use Rattle.plan_form.proofs.judge.judge_plan.Given as goal

abbrev pub invariant-loop-left : goal.invariant-loop-left
invariant-loop-left l = record {
  same : judged_branches (meaning_of l.schema) l.known l.plan.width 0 l.plan.branches ≡ judged_branches (meaning_of l.schema) l.known l.plan.width l.number l.left;
  position : l.number + length l.left ≡ length l.plan.branches;
  few : AllByRecursion (λ branch. length branch.steps ≤ 1048576) l.left;
}

abbrev pub decreases-loop-left : goal.decreases-loop-left
decreases-loop-left l = length l.left
