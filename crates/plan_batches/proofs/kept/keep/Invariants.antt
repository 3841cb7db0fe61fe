use Rattle.std.proofs.Common.{◌≡◌, ◌++◌, take}
use Rattle.plan_batches.proofs.kept.keep.Given as goal

abbrev pub invariant-loop-number : goal.invariant-loop-number
invariant-loop-number l = l.all ≡ l.fn.kept ++ take l.number l.round
