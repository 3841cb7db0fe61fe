use Rattle.std.proofs.Common.{◌≡◌, take}
use Rattle.plan_batches.specs.Kept.{answers_at}
use Rattle.plan_batches.proofs.kept.picked.Given as goal

abbrev pub invariant-loop-number : goal.invariant-loop-number
invariant-loop-number l = l.answers ≡ answers_at l.kept (take l.number-index l.numbers)
