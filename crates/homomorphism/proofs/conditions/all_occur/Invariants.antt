use Rattle.homomorphism.specs.Covering.{AllOccur}
use Rattle.homomorphism.proofs.conditions.all_occur.Given as goal

abbrev pub invariant-loop-variable : goal.invariant-loop-variable
invariant-loop-variable l = AllOccur l.atoms l.start l.variable
