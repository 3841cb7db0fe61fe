use Rattle.std.proofs.Common.{◌+◌, List, [], take, subst, sym}
use Rattle.std.proofs.lemmas.List.{take_all}
use Rattle.lists.proofs.Places.{got_indexed}
use Rattle.meaning.specs.declared.types.Query.{Query}
use Rattle.exposure_search.specs.Relevance.{IsOfKind, IsImageAmong, IsImageOf}
use Rattle.exposure_search.proofs.Following.{reached_more, reached_none, image_kinds, no_image_kinds}
use Rattle.exposure_search.proofs.relevance.Marking.reach_images.Goals as goal

pub loop-query-init : goal.loop-query-init
loop-query-init c = reached_none (IsOfKind c.args.facts.now (IsImageAmong [] c.args.head.now)) c.args.self.now (no_image_kinds c.args.facts.now c.args.head.now)

pub loop-query-preserved : goal.loop-query-preserved
loop-query-preserved c =
    let facts = c.args.facts.now in
    let queries = c.args.queries.now in
    let head = c.args.head.now in
    let i = c.loop-query.query-index in
    reached_more (IsOfKind facts (IsImageAmong (take i queries) head)) (IsOfKind facts (IsImageOf c.query-item.result head)) (IsOfKind facts (IsImageAmong (take (i + 1) queries) head)) c.args.self.now c.loop-query.self c.reach_query.new.self c.loop-query.invariant
    (record { grows = c.in_ok-reach_query.ensures.grows; reached = c.in_ok-reach_query.ensures.reached })
    (λ n kind. image_kinds facts queries head i c.query-item.result n (got_indexed queries i c.query-item.result c.loop-query-test.true c.query-item.is) kind)

pub returns-clause-reached : goal.returns-clause-reached
returns-clause-reached c number kind =
    c.loop-query.invariant.reached number (subst (λ (l : List Query). IsOfKind c.args.facts.now (IsImageAmong l c.args.head.now) number) (sym (take_all c.loop-query.query-index c.args.queries.now c.loop-query-test.false)) kind)
