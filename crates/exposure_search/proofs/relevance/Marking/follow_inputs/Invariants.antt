use Rattle.std.proofs.Common.{take}
use Rattle.accessible_copy.specs.Known.{known_values}
use Rattle.exposure_search.specs.Relevance.{HoldsInput}
use Rattle.exposure_search.proofs.Following.{IsReached}
use Rattle.exposure_search.proofs.relevance.Marking.follow_inputs.Given as goal

-- what holds the values at the first places is marked
abbrev pub invariant-loop-place : goal.invariant-loop-place
invariant-loop-place l = IsReached (HoldsInput l.holders (known_values l.proof.constants l.proof.end.exposed) l.vals (take l.place-index l.places)) l.fn.self l.self
