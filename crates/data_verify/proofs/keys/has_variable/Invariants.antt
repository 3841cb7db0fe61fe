use Rattle.std.proofs.Common.{Contains, take}
use Rattle.meaning.specs.declared.types.Term.TheVariants.{Var}
use Rattle.data_verify.proofs.keys.has_variable.Given as goal

abbrev pub invariant-loop-term : goal.invariant-loop-term
invariant-loop-term l = Contains (take l.term-index l.terms) (Var l.variable) → ⊥
