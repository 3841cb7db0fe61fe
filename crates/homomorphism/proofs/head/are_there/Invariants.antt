use Rattle.std.proofs.Common.{take}
use Rattle.meaning.specs.declared.types.Val.TheVariants.{Const}
use Rattle.meaning.specs.Matching.{AreFacts, GroundsOf}
use Rattle.homomorphism.specs.Bindings.{at}
use Rattle.homomorphism.proofs.head.are_there.Given as goal

abbrev pub invariant-loop-atom : goal.invariant-loop-atom
invariant-loop-atom l = AreFacts Const (GroundsOf l.store) (at l.values.vals) (take l.atom-index l.atoms)
