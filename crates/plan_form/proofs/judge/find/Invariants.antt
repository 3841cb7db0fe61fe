use Rattle.std.proofs.Common.{◌≡◌, length}
use Rattle.plan_form.specs.Judging.{method_of}
use Rattle.plan_form.proofs.judge.find.Given as goal

abbrev pub invariant-loop-left : goal.invariant-loop-left
invariant-loop-left l = method_of l.methods l.name ≡ method_of l.left l.name

abbrev pub decreases-loop-left : goal.decreases-loop-left
decreases-loop-left l = length l.left
