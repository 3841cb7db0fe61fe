use Rattle.std.proofs.Common.{◌≡◌, ℕ, Some, None, Contains, slice_get, take}
use Rattle.meaning.specs.declared.types.Term.TheVariants.{Var}
use Rattle.homomorphism.proofs.frontier.have_values.Given as goal

abbrev pub invariant-loop-term : goal.invariant-loop-term
invariant-loop-term l = (x : ℕ) → Contains (take l.term-index l.terms) (Var x) → slice_get l.given x ≡ Some None → ⊥
