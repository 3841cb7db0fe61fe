use Rattle.std.proofs.Common.{◌≡◌, ◌∙◌, Ok, List, ap, subst}
use Rattle.std.specs.Prelude.{Contains}
use Rattle.meaning.specs.declared.types.Ground.{Ground}
use Rattle.meaning.specs.declared.types.Query.{Query}
use Rattle.meaning.specs.declared.types.Val.TheVariants.{Const}
use Rattle.meaning.specs.Matching.{IsQueryAnswer, GroundsOf}
use Rattle.access_schema.specs.Meaning.{meaning_of}
use Rattle.no_plan_witness.specs.Witnesses.{IsWitnessOf}
use Rattle.proof_search.proofs.RefutingPairs.{closing_pair}
use Rattle.proof_search.proofs.refuting.refuted_beside.Goals as goal

pub returns : goal.returns
returns c =
    let question = c.args.question.now in
    let end = c.args.proof.now.end in
    let state = c.args.state.now in
    let pair = c.in_ok-pair.pair in
    let none : (query : Query) → Contains question.queries.now query → IsQueryAnswer Const (GroundsOf state.facts) query question.head.now → ⊥ =
    subst (λ (facts : List Ground). (query : Query) → Contains question.queries.now query →
    IsQueryAnswer Const (GroundsOf facts) query question.head.now → ⊥) c.store.ensures (c.in_ok-has_head.ensures (ap Ok c.if-branch.false)) in
    let first : c.as_slice.result.now ≡ end.base = c.as_slice.ensures.value ∙ c.in_ok-base.ensures in
    let second : c.as_slice-2.result.now ≡ state.facts = c.as_slice-2.ensures.value ∙ c.in_ok-closed.ensures ∙ c.store-2.ensures in
    let of_pair : IsWitnessOf (meaning_of question.schema.now) question.known.now end.base state.facts question.head.now pair =
    subst (λ (facts : List Ground). IsWitnessOf (meaning_of question.schema.now) question.known.now end.base facts question.head.now pair) second
    (subst (λ (facts : List Ground). IsWitnessOf (meaning_of question.schema.now) question.known.now facts c.as_slice-2.result.now question.head.now pair) first c.in_ok-pair.ensures) in
    closing_pair question c.requires.question end state pair c.requires.exhausted c.requires.closing none of_pair
