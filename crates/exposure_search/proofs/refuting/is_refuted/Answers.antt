use Rattle.std.proofs.Common.{◌≡◌, ◌<◌, ◌∙◌, List, Ok, false, length, ap, sym, subst, rules, arith}
use Rattle.std.specs.Prelude.{Contains}
use Rattle.meaning.specs.declared.types.Ground.{Ground}
use Rattle.meaning.specs.declared.types.Query.{Query}
use Rattle.meaning.specs.declared.types.Val.TheVariants.{Const}
use Rattle.meaning.specs.Matching.{IsQueryAnswer, GroundsOf}
use Rattle.meaning.specs.Triggers.{LabelsBelow}
use Rattle.access_schema.specs.Meaning.{meaning_of}
use Rattle.small_base.specs.Closing.{IsClosing}
use Rattle.small_base.proofs.Refuting.{closed_refutes}
use Rattle.least_search.specs.Walks.{no_facts}
use Rattle.exposure_search.specs.Ahead.{facts_along}
use Rattle.exposure_search.specs.Exploring.{most_labels}
use Rattle.exposure_search.proofs.Early.{along_base}
use Rattle.exposure_search.proofs.Refuted.{walk_within, along_named, along_below}
use Rattle.exposure_search.proofs.refuting.is_refuted.Goals as goal

pub facts_along-requires : goal.facts_along-requires
facts_along-requires c move among =
    let base = c.args.proof.now.end.base in
    subst (λ (facts : List Ground). move.fact < length facts) (sym (c.as_slice.ensures.value ∙ c.requires.aimed.ready.facts_are))
    (walk_within (meaning_of c.args.aim.now.schema.now) c.args.proof.now.constants base c.args.path.now (no_facts (length base)) c.args.set.now c.requires.walk move among)

pub closing-requires : goal.closing-requires
closing-requires c =
    let same : c.in_ok-facts.facts.items ≡ facts_along c.args.proof.now.end.base c.args.path.now =
    c.in_ok-facts.ensures ∙ ap (λ (base : List Ground). facts_along base c.args.path.now) (c.as_slice.ensures.value ∙ c.requires.aimed.ready.facts_are) in
    subst (λ (facts : List Ground). LabelsBelow facts c.next.result) (sym same)
    (subst (λ next. LabelsBelow (facts_along c.args.proof.now.end.base c.args.path.now) next) (sym c.next.ensures)
    (along_below (meaning_of c.args.aim.now.schema.now) c.args.proof.now c.args.path.now c.args.set.now c.requires.walk c.requires.aimed.named.facts))

pub returns : goal.returns
returns c e =
    let schema = meaning_of c.args.aim.now.schema.now in
    let proof = c.args.proof.now in
    let named = c.requires.aimed.named in
    let along : List Ground = facts_along proof.end.base c.args.path.now in
    let same : c.in_ok-facts.facts.items ≡ along = c.in_ok-facts.ensures ∙ ap (λ (base : List Ground). facts_along base c.args.path.now) (c.as_slice.ensures.value ∙ c.requires.aimed.ready.facts_are) in
    let made : IsClosing schema c.in_ok-facts.facts.items c.next.result c.in-Some.state = rw c.in-Some.is at c.in_ok-state.ensures in
    let closed : IsClosing schema along proof.end.next c.in-Some.state =
    subst (λ (facts : List Ground). IsClosing schema facts proof.end.next c.in-Some.state) same (subst (λ next. IsClosing schema c.in_ok-facts.facts.items next c.in-Some.state) c.next.ensures made) in
    let off : c.in_ok-found.field-0 ≡ false = search (e, rules) in
    let none : (query : Query) → Contains c.args.aim.now.queries.now query → IsQueryAnswer Const (GroundsOf c.in-Some.state.facts) query c.args.aim.now.head.now → ⊥ =
    subst (λ (facts : List Ground). (query : Query) → Contains c.args.aim.now.queries.now query → IsQueryAnswer Const (GroundsOf facts) query c.args.aim.now.head.now → ⊥) c.store.ensures (c.in_ok-found.ensures (ap Ok off)) in
    closed_refutes schema proof.constants c.args.aim.now.queries.now along proof.end.next (most_labels c.args.aim.now.schema.now.rules) c.in-Some.state
    c.args.aim.now.head.now named.rules.have (along_named schema proof c.args.path.now c.args.set.now c.requires.walk named.facts)
    (λ f among. named.fits f (along_base schema proof c.args.path.now c.args.set.now c.requires.walk f among)) closed
    (let next = c.next-next.ensures.next in omega arith) none
