use Rattle.std.proofs.Common.{◌≡◌, take}
use Rattle.shared_rounds.specs.SharedRounds.{steps_in}
use Rattle.plan_course.proofs.counting.count_steps.Given as goal

abbrev pub invariant-loop-branch : goal.invariant-loop-branch
invariant-loop-branch l = l.count ≡ steps_in (take l.branch-index l.branch-items)
