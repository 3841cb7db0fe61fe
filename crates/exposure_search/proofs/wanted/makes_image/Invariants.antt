use Rattle.std.proofs.Common.{take}
use Rattle.meaning.specs.declared.types.Ground.{Ground}
use Rattle.exposure_search.specs.Relevance.{Makes, IsImageAmong}
use Rattle.exposure_search.proofs.wanted.makes_image.Given as goal

-- the rule makes no image of the first queries
abbrev pub invariant-loop-query : goal.invariant-loop-query
invariant-loop-query l = (fact : Ground) → Makes l.next l.rule fact → IsImageAmong (take l.query-index l.queries) l.head fact → ⊥
