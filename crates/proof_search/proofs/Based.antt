-- The base state of a query, and the names of what stands in it.
use Rattle.std.proofs.Common.{◌≡◌, List, sym, subst}
use Rattle.std.specs.Prelude.{Contains}
use Rattle.meaning.specs.declared.types.SchemaParts.{SchemaParts}
use Rattle.meaning.specs.declared.types.Query.{Query}
use Rattle.meaning.specs.declared.types.Trigger.{Trigger}
use Rattle.meaning.specs.declared.types.Val.{Val}
use Rattle.meaning.specs.Values.{Value}
use Rattle.meaning.specs.Triggers.{State, IsFiringRun, IsQuiet, ground}
use Rattle.meaning.specs.Runs.{Proof, base_state, opening, frozen_head}
use Rattle.meaning.specs.Fitting.{RulesFit, QueryFits, QueryHasConstants}
use Rattle.meaning.specs.Extract.{IsBase}
use Rattle.meaning_laws.proofs.Carrying.{run_fires}
use Rattle.meaning_laws.proofs.Keeping.{run_keeps, named_more}
use Rattle.meaning_laws.proofs.Kept.{kept_opening}
use Rattle.access_schema.specs.Meaning.{meaning_of}
use Rattle.access_schema.proofs.Keeping.{rules_fit}
use Rattle.accessible_copy.specs.Proving.{Proving, log_of}
use Rattle.exposure_search.specs.Making.{bases_of, IsBaseProof}
use Rattle.exposure_search.specs.Aims.{AreNamedFor}
use Rattle.exposure_search.proofs.Explored.{begins_only}
use Rattle.exposure_search.proofs.Logs.{lies}
use Rattle.proof_search.specs.declared.question.Question.{Question}
use Rattle.proof_search.specs.Questions.{IsQuestion}

module _ (schema : SchemaParts) (constants : List Value) (query : Query) (rules : RulesFit schema constants) (fits : QueryFits schema query) (its : QueryHasConstants constants query) where
  -- where a run from the query's opening comes to rest, there is a base of the query
  pub base_from : (log : List Trigger) (base : State) → IsFiringRun schema.rules (base_state (opening query)) log base → IsQuiet schema.rules base → IsBase schema constants query base (frozen_head query)
  base_from log base run quiet =
      let kept = kept_opening schema constants query fits its in
      let on = run_keeps schema constants log (base_state (opening query)) base rules kept.base_named kept.base_fits run in
      record {
        quiet = quiet;
        named = on.named;
        fits = on.fit;
        answered = (kept.answered.0, (λ atom among. on.grows (ground kept.answered.0 atom) (kept.answered.1 atom among)), kept.answered.2);
        head_named = λ v c. named_more constants query.variables base.next v on.next (kept.head_named v c);
      }

  -- a proof of base firings leads to one
  pub base_of : (proof : Proving) → IsBaseProof schema proof → proof.start ≡ opening query → IsBase schema constants query (base_state proof.end) (frozen_head query)
  base_of proof is start =
      let bases : List Trigger = bases_of (log_of proof) in
      let run = run_fires schema.rules bases (base_state proof.start) (base_state proof.end) (lies schema proof (begins_only schema proof is)).base in
      base_from bases (base_state proof.end) (subst (λ (p : Proof). IsFiringRun schema.rules (base_state p) bases (base_state proof.end)) start run) is.quiet

-- what stands in the base of a query with the head of a question, and these of the question's queries, have names
pub named_for : (question : Question) → IsQuestion question → (query : Query) → QueryFits (meaning_of question.schema.now) query → QueryHasConstants question.known.now query → question.head.now ≡ frozen_head query →
    (proof : Proving) → IsBaseProof (meaning_of question.schema.now) proof → proof.start ≡ opening query → proof.constants ≡ question.known.now →
    (goals : List Query) → ((q : Query) → Contains goals q → Contains question.queries.now q) →
    AreNamedFor (meaning_of question.schema.now) proof.constants proof.end.base proof.end.next goals question.head.now
named_for question is query fits its head proof bases start constants goals within =
    let schema = meaning_of question.schema.now in
    let rules : RulesFit schema question.known.now = rules_fit question.schema.now question.known.now is.known in
    let base = base_of schema question.known.now query rules fits its proof bases start in
    let named : AreNamedFor schema question.known.now proof.end.base proof.end.next goals (frozen_head query) = record {
      rules = rules;
      asked = λ q among. (is.queries q (within q among)).constants;
      facts = base.named;
      fits = base.fits;
      values = base.head_named;
    } in
    subst (λ (known : List Value). AreNamedFor schema known proof.end.base proof.end.next goals question.head.now) (sym constants)
    (subst (λ (vals : List Val). AreNamedFor schema question.known.now proof.end.base proof.end.next goals vals) (sym head) named)
