use Rattle.std.proofs.Common.{take}
use Rattle.exposure_search.specs.Ahead.{facts_along}
use Rattle.exposure_search.specs.Candidates.{IsHeld}
use Rattle.exposure_search.proofs.candidates.is_held.Given as goal

-- none of the first facts holds the value
abbrev pub invariant-loop-step : goal.invariant-loop-step
invariant-loop-step l = IsHeld (facts_along l.facts (take l.step-index l.path)) l.val → ⊥
