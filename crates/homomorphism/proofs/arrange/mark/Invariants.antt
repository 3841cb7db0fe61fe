use Rattle.std.proofs.Common.{take}
use Rattle.homomorphism.proofs.Runs.{AreMarked}
use Rattle.homomorphism.proofs.arrange.mark.Given as goal

abbrev pub invariant-loop-number : goal.invariant-loop-number
invariant-loop-number l = AreMarked (take l.number-index l.run) l.fn.seen.items l.seen.items
