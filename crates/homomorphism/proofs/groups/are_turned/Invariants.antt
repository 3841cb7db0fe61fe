use Rattle.std.proofs.Common.{take}
use Rattle.homomorphism.specs.Walks.{AreTurned}
use Rattle.homomorphism.specs.Widening.{taken}
use Rattle.homomorphism.proofs.groups.are_turned.Given as goal

abbrev pub invariant-loop-number : goal.invariant-loop-number
invariant-loop-number l = AreTurned l.owners l.whole (taken l.atoms (take l.number-index l.run)) l.counts
