use Rattle.std.proofs.Common.{take}
use Rattle.exposure_search.specs.Ahead.{CannotFire, facts_along}
use Rattle.exposure_search.proofs.quieting.may_fire.Given as goal

-- none of the first rules can fire
abbrev pub invariant-loop-number : goal.invariant-loop-number
invariant-loop-number l = CannotFire l.rules (take l.number-index l.numbers) (facts_along l.facts l.path)
