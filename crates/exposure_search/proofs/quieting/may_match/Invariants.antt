use Rattle.exposure_search.specs.Ahead.{facts_along}
use Rattle.exposure_search.proofs.Missing.{UnmatchedTo}
use Rattle.exposure_search.proofs.quieting.may_match.Given as goal

-- the first queries lack a relation each
abbrev pub invariant-loop-query : goal.invariant-loop-query
invariant-loop-query l = UnmatchedTo l.queries (facts_along l.facts l.path) l.query-index
