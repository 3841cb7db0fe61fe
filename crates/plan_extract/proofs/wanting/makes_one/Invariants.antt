use Rattle.std.proofs.Common.{◌≡◌, ◌≤◌, ◌<◌, ℕ, Some}
use Rattle.std.specs.Prelude.{Contains, slice_get}
use Rattle.meaning.specs.declared.types.Ground.{Ground}
use Rattle.plan_extract.proofs.wanting.makes_one.Given as goal

-- none of the facts so far is wanted
abbrev pub invariant-loop-number : goal.invariant-loop-number
invariant-loop-number l =
    (number : ℕ) (fact : Ground) → l.before ≤ number → number < l.number → slice_get l.proof.end.copy number ≡ Some fact → Contains l.wanted fact → ⊥
