use Rattle.std.proofs.Common.{take}
use Rattle.exposure_search.specs.Making.{IsMissing}
use Rattle.exposure_search.specs.Ahead.{facts_along}
use Rattle.exposure_search.proofs.quieting.lacks.Given as goal

-- none of the first facts is one of the relation
abbrev pub invariant-loop-step : goal.invariant-loop-step
invariant-loop-step l = IsMissing (facts_along l.facts (take l.step-index l.path)) l.rel
