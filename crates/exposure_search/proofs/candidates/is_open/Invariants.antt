use Rattle.std.proofs.Common.{◌≡◌, ℕ, Some, take}
use Rattle.std.specs.Prelude.{Contains, slice_get}
use Rattle.exposure_search.specs.declared.candidates.Candidate.{Candidate}
use Rattle.exposure_search.specs.Ahead.{facts_along}
use Rattle.exposure_search.specs.Candidates.{IsMoveOf}
use Rattle.exposure_search.proofs.candidates.is_open.Given as goal

-- the move is that of none of the first candidates, or the facts do not hold all that it asks for
abbrev pub invariant-loop-number : goal.invariant-loop-number
invariant-loop-number l = (number : ℕ) → Contains (take l.number-index l.numbers) number →
    (candidate : Candidate) → slice_get l.candidates number ≡ Some candidate → IsMoveOf (facts_along l.facts l.path) l.step candidate → ⊥
