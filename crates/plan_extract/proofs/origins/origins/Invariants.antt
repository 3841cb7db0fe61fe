use Rattle.std.proofs.Common.{take}
use Rattle.plan_extract.specs.Lent.{exposures_of}
use Rattle.plan_extract.specs.Passes.{AreOrigins}
use Rattle.plan_extract.proofs.origins.origins.Given as goal

-- the origins among the exposures so far
abbrev pub invariant-loop-number : goal.invariant-loop-number
invariant-loop-number l = AreOrigins (take l.number (exposures_of l.exposures)) l.origins
