use Rattle.std.proofs.Common.{take}
use Rattle.std.specs.Prelude.{Contains}
use Rattle.meaning.specs.declared.types.Query.{Query}
use Rattle.meaning.specs.declared.types.Val.TheVariants.{Const}
use Rattle.meaning.specs.Matching.{IsQueryAnswer, GroundsOf}
use Rattle.exposure_search.proofs.refuting.has_head.Given as goal

-- the first queries have no answer
abbrev pub invariant-loop-query : goal.invariant-loop-query
invariant-loop-query l = (query : Query) → Contains (take l.query-index l.queries) query → IsQueryAnswer Const (GroundsOf l.facts) query l.head → ⊥
