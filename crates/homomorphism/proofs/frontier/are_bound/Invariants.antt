use Rattle.std.proofs.Common.{◌≡◌, ℕ, Some, None, slice_get, take}
use Rattle.meaning.specs.Matching.{OccursIn}
use Rattle.homomorphism.proofs.frontier.are_bound.Given as goal

abbrev pub invariant-loop-atom : goal.invariant-loop-atom
invariant-loop-atom l = (x : ℕ) → OccursIn (take l.atom-index l.atoms) x → slice_get l.given x ≡ Some None → ⊥
