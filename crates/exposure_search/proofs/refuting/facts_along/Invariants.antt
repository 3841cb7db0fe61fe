use Rattle.std.proofs.Common.{◌≡◌, take}
use Rattle.exposure_search.specs.Ahead.{facts_along}
use Rattle.exposure_search.proofs.refuting.facts_along.Given as goal

-- the facts of the first moves
abbrev pub invariant-loop-step : goal.invariant-loop-step
invariant-loop-step l = l.copies.items ≡ facts_along l.facts (take l.step-index l.path)
