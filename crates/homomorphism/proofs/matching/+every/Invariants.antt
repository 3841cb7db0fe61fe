use Rattle.std.proofs.Common.{length}
use Rattle.homomorphism.proofs.AtomByAtom.{Gathered}
use Rattle.homomorphism.proofs.matching.+every.Given as goal

abbrev pub decreases-every : goal.decreases-every
decreases-every l = length l.atoms.now

abbrev pub invariant-loop-way : goal.invariant-loop-way
invariant-loop-way l = Gathered l.store l.rest l.fn.given l.yielded l.fn.found.items l.found.items
