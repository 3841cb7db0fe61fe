use Rattle.std.proofs.Common.{◌≡◌, length}
use Rattle.plan_form.specs.Judging.{is_input_at}
use Rattle.plan_form.proofs.judge.is_input.Given as goal

abbrev pub invariant-loop-left : goal.invariant-loop-left
invariant-loop-left l = is_input_at l.inputs l.position ≡ is_input_at l.left l.position

abbrev pub decreases-loop-left : goal.decreases-loop-left
decreases-loop-left l = length l.left
