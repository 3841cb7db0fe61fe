use Rattle.std.proofs.Common.{take}
use Rattle.exposure_search.specs.Ahead.{facts_along}
use Rattle.exposure_search.specs.Candidates.{AreHeld}
use Rattle.exposure_search.proofs.candidates.are_held.Given as goal

abbrev pub invariant-loop-val : goal.invariant-loop-val
invariant-loop-val l = AreHeld (facts_along l.facts l.path) (take l.val-index l.vals)
