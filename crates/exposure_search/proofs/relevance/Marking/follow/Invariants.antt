use Rattle.std.proofs.Common.{take}
use Rattle.accessible_copy.specs.Known.{known_values}
use Rattle.exposure_search.specs.Relevance.{IsAskedBy}
use Rattle.exposure_search.proofs.Following.{IsReached}
use Rattle.exposure_search.proofs.relevance.Marking.follow.Given as goal

-- what the first methods ask for is marked
abbrev pub invariant-loop-number : goal.invariant-loop-number
invariant-loop-number l = IsReached (IsAskedBy l.schema.methods l.holders (known_values l.proof.constants l.proof.end.exposed) l.fact.vals (take l.number-index l.number-items)) l.fn.self l.self
