use Rattle.std.proofs.Common.{take}
use Rattle.homomorphism.proofs.Runs.{Marked}
use Rattle.homomorphism.proofs.arrange.are_runs.Given as goal

abbrev pub invariant-loop-run : goal.invariant-loop-run
invariant-loop-run l = Marked l.count (take l.run-index l.runs) l.seen.items
