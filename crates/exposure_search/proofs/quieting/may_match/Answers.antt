use Rattle.std.proofs.Common.{List, subst}
use Rattle.std.specs.Prelude.{Contains}
use Rattle.std.proofs.lemmas.List.{take_all}
use Rattle.lists.proofs.Places.{got_indexed}
use Rattle.meaning.specs.declared.types.Atom.{Atom}
use Rattle.meaning.specs.declared.types.Query.{Query}
use Rattle.exposure_search.specs.Making.{IsMissing}
use Rattle.exposure_search.specs.Ahead.{CannotMatch, facts_along}
use Rattle.exposure_search.proofs.Wanting.{front_each}
use Rattle.exposure_search.proofs.quieting.may_match.Goals as goal

pub loop-query-preserved : goal.loop-query-preserved
loop-query-preserved c =
    front_each (λ (query : Query). (atom : Atom) × Contains query.atoms atom × IsMissing (facts_along c.args.facts.now c.args.path.now) atom.rel) c.args.queries.now c.loop-query.query-index c.query-item.result
    (got_indexed c.args.queries.now c.loop-query.query-index c.query-item.result c.loop-query-test.true c.query-item.is) c.loop-query.invariant
    (subst (λ (atoms : List Atom). (atom : Atom) × Contains atoms atom × IsMissing (facts_along c.args.facts.now c.args.path.now) atom.rel) c.as_slice.ensures (c.lacks_some.ensures c.if-not-lacks_some.false))

pub returns : goal.returns
returns c e =
    subst (λ (queries : List Query). CannotMatch queries (facts_along c.args.facts.now c.args.path.now)) (take_all c.loop-query.query-index c.args.queries.now c.loop-query-test.false) c.loop-query.invariant
