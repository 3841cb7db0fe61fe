use Rattle.std.proofs.Common.{List, Ok, ap, subst}
use Rattle.std.specs.Prelude.{Contains}
use Rattle.std.proofs.lemmas.List.{take_all}
use Rattle.lists.proofs.Places.{got_indexed}
use Rattle.meaning.specs.declared.types.Query.{Query}
use Rattle.meaning.specs.declared.types.Val.TheVariants.{Const}
use Rattle.meaning.specs.Matching.{IsQueryAnswer, GroundsOf}
use Rattle.exposure_search.proofs.Wanting.{front_each}
use Rattle.exposure_search.proofs.refuting.has_head.Goals as goal

pub loop-query-preserved : goal.loop-query-preserved
loop-query-preserved c =
    let test = rw c.as_slice-query-items.ensures at c.loop-query-test.true in
    let is = rw c.as_slice-query-items.ensures at c.query-item.is in
    front_each (λ (query : Query). IsQueryAnswer Const (GroundsOf c.args.facts.now) query c.args.head.now → ⊥) c.args.queries.now c.loop-query.query-index c.query-item.result
    (got_indexed c.args.queries.now c.loop-query.query-index c.query-item.result test is) c.loop-query.invariant
    (c.in_ok-has_answer.ensures (ap Ok c.if-branch.false))

pub returns : goal.returns
returns c e =
    subst (λ (queries : List Query). (query : Query) → Contains queries query → IsQueryAnswer Const (GroundsOf c.args.facts.now) query c.args.head.now → ⊥)
    (take_all c.loop-query.query-index c.args.queries.now (rw c.as_slice-query-items.ensures at c.loop-query-test.false)) c.loop-query.invariant
