use Rattle.std.proofs.Common.{ℕ, ◌<◌, ◌⊎◌}
use Rattle.meaning.specs.Matching.{OccursIn}
use Rattle.homomorphism.specs.Bindings.{IsBound}
use Rattle.homomorphism.proofs.conditions.is_covered.Given as goal

abbrev pub invariant-loop-variable : goal.invariant-loop-variable
invariant-loop-variable l = (x : ℕ) → x < l.variable → IsBound l.given x ⊎ OccursIn l.atoms x
