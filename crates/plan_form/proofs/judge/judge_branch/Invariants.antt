use Rattle.std.proofs.Common.{◌≡◌, ◌≤◌, ◌+◌, ◌*◌, length}
use Rattle.access_schema.specs.Meaning.{meaning_of}
use Rattle.plan_form.specs.Judging.{judged_steps}
use Rattle.plan_form.proofs.judge.judge_branch.Given as goal

abbrev pub invariant-loop-left : goal.invariant-loop-left
invariant-loop-left l = record {
  same : judged_steps (meaning_of l.schema) l.known l.width l.number 0 0 l.branch.steps l.branch.output ≡ judged_steps (meaning_of l.schema) l.known l.width l.number l.step_number l.columns l.left l.branch.output;
  position : l.step_number + length l.left ≡ length l.branch.steps;
  columns : l.columns ≤ l.step_number * 64;
}

abbrev pub decreases-loop-left : goal.decreases-loop-left
decreases-loop-left l = length l.left
