use Rattle.std.proofs.Common.{List, subst}
use Rattle.std.proofs.lemmas.List.{take_all}
use Rattle.lists.proofs.Places.{got_indexed}
use Rattle.meaning.specs.declared.types.Query.{Query}
use Rattle.exposure_search.specs.Relevance.{BodiesMarked, IsImageAmong}
use Rattle.exposure_search.proofs.Served.{bodies_queries, bodies_no_query}
use Rattle.exposure_search.proofs.wanted.serving_relations.Goals as goal

pub loop-query-init : goal.loop-query-init
loop-query-init c = bodies_no_query c.args.rules.now c.args.next c.args.head.now c.new-marks.result.items

pub loop-query-preserved : goal.loop-query-preserved
loop-query-preserved c =
    bodies_queries c.args.rules.now c.args.next c.args.queries.now c.args.head.now c.loop-query.marks.items c.mark_query.new.marks.items c.loop-query.query-index c.query-item.result (got_indexed c.args.queries.now c.loop-query.query-index c.query-item.result c.loop-query-test.true c.query-item.is)
    c.in_ok-mark_query.ensures.stays c.loop-query.invariant c.in_ok-mark_query.ensures.served

pub returns : goal.returns
returns c = subst (λ (l : List Query). BodiesMarked c.args.rules.now c.args.next (IsImageAmong l c.args.head.now) c.loop-query.marks.items) (take_all c.loop-query.query-index c.args.queries.now c.loop-query-test.false) c.loop-query.invariant
