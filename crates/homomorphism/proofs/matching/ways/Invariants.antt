use Rattle.std.proofs.Common.{take}
use Rattle.homomorphism.specs.Ways.{AreWays}
use Rattle.homomorphism.proofs.Choosing.{picked}
use Rattle.homomorphism.proofs.matching.ways.Given as goal

abbrev pub invariant-loop-number : goal.invariant-loop-number
invariant-loop-number l = AreWays (take l.number-index (picked l.store l.number-items)) l.atom l.given l.ways.items
