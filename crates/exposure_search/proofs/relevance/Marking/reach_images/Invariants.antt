use Rattle.std.proofs.Common.{take}
use Rattle.exposure_search.specs.Relevance.{IsOfKind, IsImageAmong}
use Rattle.exposure_search.proofs.Following.{IsReached}
use Rattle.exposure_search.proofs.relevance.Marking.reach_images.Given as goal

-- the images of the first queries are marked
abbrev pub invariant-loop-query : goal.invariant-loop-query
invariant-loop-query l = IsReached (IsOfKind l.facts (IsImageAmong (take l.query-index l.queries) l.head)) l.fn.self l.self
