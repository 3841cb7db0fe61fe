use Rattle.std.proofs.Common.{take}
use Rattle.homomorphism.specs.Widening.{AreUntouched}
use Rattle.homomorphism.proofs.start.are_left.Given as goal

abbrev pub invariant-loop-atom : goal.invariant-loop-atom
invariant-loop-atom l = AreUntouched (take l.atom-index l.atoms) l.given l.start
