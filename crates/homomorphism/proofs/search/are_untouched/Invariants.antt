use Rattle.std.proofs.Common.{take}
use Rattle.homomorphism.specs.Widening.{AreUntouched, taken}
use Rattle.homomorphism.proofs.search.are_untouched.Given as goal

abbrev pub invariant-loop-number : goal.invariant-loop-number
invariant-loop-number l = AreUntouched (taken l.atoms (take l.number-index l.run)) l.given l.now
