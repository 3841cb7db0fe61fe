use Rattle.std.proofs.Common.{take}
use Rattle.homomorphism.specs.Frontier.{AreApart}
use Rattle.homomorphism.proofs.start.are_apart.Given as goal

abbrev pub invariant-loop-atom : goal.invariant-loop-atom
invariant-loop-atom l = AreApart (take l.atom-index l.atoms) l.given l.start
