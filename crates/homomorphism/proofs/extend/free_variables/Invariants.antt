use Rattle.std.proofs.Common.{take}
use Rattle.homomorphism.specs.Widening.{AreFree}
use Rattle.homomorphism.proofs.extend.free_variables.Given as goal

abbrev pub invariant-loop-term : goal.invariant-loop-term
invariant-loop-term l = AreFree (take l.term-index l.terms) l.given l.free.items
