use Rattle.homomorphism.proofs.Starting.{AreBetween}
use Rattle.homomorphism.proofs.start.started.Given as goal

abbrev pub invariant-loop-variable : goal.invariant-loop-variable
invariant-loop-variable l = AreBetween l.given l.found l.variable l.start.items
