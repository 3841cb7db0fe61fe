use Rattle.std.proofs.Common.{take}
use Rattle.exposure_search.specs.Ahead.{facts_along}
use Rattle.exposure_search.specs.Candidates.{AreMovesFrom}
use Rattle.exposure_search.proofs.candidates.moves_from.Given as goal

-- the moves of the first candidates
abbrev pub invariant-loop-candidate : goal.invariant-loop-candidate
invariant-loop-candidate l = AreMovesFrom (facts_along l.facts l.path) l.set l.below (take l.candidate-index l.candidates) l.moves.items
