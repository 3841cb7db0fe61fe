use Rattle.std.proofs.Common.{◌≡◌, length}
use Rattle.plan_form.specs.Judging.{has_text}
use Rattle.plan_form.proofs.known.is_one_of.Given as goal

abbrev pub invariant-loop-left : goal.invariant-loop-left
invariant-loop-left l = has_text l.texts l.text ≡ has_text l.left l.text

abbrev pub decreases-loop-left : goal.decreases-loop-left
decreases-loop-left l = length l.left
