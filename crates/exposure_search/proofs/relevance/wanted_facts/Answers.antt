use Rattle.std.proofs.Common.{arith}
use Rattle.std.proofs.lemmas.Option.{slice_get_within}
use Rattle.lists.proofs.Places.{got_indexed}
use Rattle.exposure_search.proofs.Following.{begun_more}
use Rattle.exposure_search.proofs.relevance.wanted_facts.Goals as goal

pub loop-fact-preserved : goal.loop-fact-preserved
loop-fact-preserved c =
    begun_more c.args.wanted.now c.args.facts.now c.loop-fact.fact-index c.loop-fact.marking c.add.new.self c.fact-item.result c.is_marked.result c.loop-fact.invariant (got_indexed c.args.facts.now c.loop-fact.fact-index c.fact-item.result c.loop-fact-test.true c.fact-item.is)
    c.in_ok-add.ensures.marks c.in_ok-add.ensures.waits c.in_ok-add.ensures.new (λ on. c.is_marked.ensures.1 on)

pub returns-clause-long : goal.returns-clause-long
returns-clause-long c = let long = c.loop-fact.invariant.long in let end = c.loop-fact-test.false in let most = c.loop-fact.auto.fact-index-end in omega arith

pub returns-clause-wanted : goal.returns-clause-wanted
returns-clause-wanted c number fact at wants =
    c.loop-fact.invariant.wants number fact (let low = slice_get_within c.args.facts.now number fact at in let end = c.loop-fact-test.false in omega arith) at wants

pub returns-clause-wait : goal.returns-clause-wait
returns-clause-wait c = c.loop-fact.invariant.waits
