use Rattle.std.proofs.Common.{take}
use Rattle.exposure_search.specs.Relevance.{BodiesMarked, IsImageAmong}
use Rattle.exposure_search.proofs.wanted.serving_relations.Given as goal

-- the rules that serve the first queries are marked for
abbrev pub invariant-loop-query : goal.invariant-loop-query
invariant-loop-query l = BodiesMarked l.rules l.next (IsImageAmong (take l.query-index l.queries) l.head) l.marks.items
