use Rattle.std.proofs.Common.{◌≡◌, ◌+◌, length}
use Rattle.plan_form.specs.Judging.{judged_outs}
use Rattle.plan_form.proofs.judge.judge_outs.Given as goal

abbrev pub invariant-loop-left : goal.invariant-loop-left
invariant-loop-left l = record {
  same : judged_outs l.known l.columns 0 l.outs ≡ judged_outs l.known l.columns l.position l.left;
  position : l.position + length l.left ≡ length l.outs;
}

abbrev pub decreases-loop-left : goal.decreases-loop-left
decreases-loop-left l = length l.left
