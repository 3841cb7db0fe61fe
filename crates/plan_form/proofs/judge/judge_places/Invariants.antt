use Rattle.std.proofs.Common.{◌≡◌, ◌≤◌, ◌+◌, length}
use Rattle.plan_form.specs.Judging.{judged_places}
use Rattle.plan_form.proofs.judge.judge_places.Given as goal

abbrev pub invariant-loop-left : goal.invariant-loop-left
invariant-loop-left l = record {
  same : judged_places l.known l.inputs l.began 0 l.began l.places ≡ judged_places l.known l.inputs l.began l.position l.columns l.left;
  position : l.position + length l.left ≡ length l.places;
  columns : l.columns + length l.left ≤ l.began + length l.places;
}

abbrev pub decreases-loop-left : goal.decreases-loop-left
decreases-loop-left l = length l.left
