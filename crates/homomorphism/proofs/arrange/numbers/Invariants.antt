use Rattle.homomorphism.proofs.Runs.{Counted}
use Rattle.homomorphism.proofs.arrange.numbers.Given as goal

abbrev pub invariant-loop-number : goal.invariant-loop-number
invariant-loop-number l = Counted l.number l.run
