use Rattle.std.proofs.Common.{◌↔◌, Contains, length}
use Rattle.meaning.specs.declared.types.Term.TheVariants.{Var}
use Rattle.homomorphism.proofs.conditions.has_variable.Given as goal

abbrev pub invariant-loop-left : goal.invariant-loop-left
invariant-loop-left l = Contains l.terms (Var l.variable) ↔ Contains l.left (Var l.variable)

abbrev pub decreases-loop-left : goal.decreases-loop-left
decreases-loop-left l = length l.left
