use Rattle.homomorphism.proofs.Choosing.{IsFound}
use Rattle.homomorphism.proofs.fact_index.FactIndex.candidates.Given as goal

abbrev pub invariant-loop-position : goal.invariant-loop-position
invariant-loop-position l = IsFound l.self.positions l.self.lists l.atom l.given l.best
