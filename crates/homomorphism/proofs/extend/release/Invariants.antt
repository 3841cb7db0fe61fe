use Rattle.std.proofs.Common.{take}
use Rattle.homomorphism.proofs.Touching.{AreReleased}
use Rattle.homomorphism.proofs.extend.release.Given as goal

abbrev pub invariant-loop-variable : goal.invariant-loop-variable
invariant-loop-variable l = AreReleased (take l.variable-index l.free) l.fn.given.items l.given.items
