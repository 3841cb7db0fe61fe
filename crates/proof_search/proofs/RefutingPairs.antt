-- Pairs of instances of integers that refute: of a proof in which nothing is active, and over a small base.
use Rattle.std.proofs.Common.{◌≡◌, ℕ, List, [], length, map, sym, ap, ◌∙◌, subst}
use Rattle.std.specs.Prelude.{Contains}
use Rattle.std.proofs.lemmas.List.{length-map}
use Rattle.meaning.specs.declared.types.Firing.{Firing}
use Rattle.meaning.specs.declared.types.Query.{Query}
use Rattle.meaning.specs.declared.types.SchemaParts.{SchemaParts}
use Rattle.meaning.specs.declared.types.Val.{Val}
use Rattle.meaning.specs.declared.types.Val.TheVariants.{Const, Label}
use Rattle.meaning.specs.Values.{Value}
use Rattle.meaning.specs.Homomorphisms.{image}
use Rattle.meaning.specs.Matching.{value_of, MeetsAll, IsQueryAnswer, GroundsOf}
use Rattle.meaning.specs.Naming.{IsNamed}
use Rattle.meaning.specs.Sorts.{AtomsAreSorted}
use Rattle.meaning.specs.Triggers.{State, AreNumbered}
use Rattle.meaning.specs.Runs.{Proof, base_state, IsRun, IsOrderedRun, NoExposure, HasGoal, IsStuck, opening, opening_state, frozen_head}
use Rattle.meaning.specs.Fitting.{RulesFit, QueryFits, QueryHasConstants, IsKept}
use Rattle.meaning_laws.proofs.Deciding.{quiet_meets}
use Rattle.meaning_laws.proofs.Keeping.{named_more}
use Rattle.meaning_laws.proofs.Kept.{kept_opening, kept_run, ordered_is_run}
use Rattle.access_schema.specs.Meaning.{meaning_of}
use Rattle.access_schema.proofs.Keeping.{rules_fit, rules_sorted}
use Rattle.integer_laws.specs.Sorted.{AreSortedFacts, AreSortedRules, ProofIsSorted}
use Rattle.integer_laws.proofs.Firings.{opening_sorted, proof_sorted}
use Rattle.rule_pass.proofs.OnePass.{met_quiet}
use Rattle.accessible_copy.specs.Proving.{Proving, IsOrdered, firings_of, log_of}
use Rattle.accessible_copy.specs.Rounds.{IsAllQuiet}
use Rattle.small_base.specs.Closed.{HasMore, IsClosed}
use Rattle.small_base.specs.Closing.{IsClosing}
use Rattle.findings.specs.declared.refutation.Witness.{Witness}
use Rattle.no_plan_witness.specs.Texts.{text_under}
use Rattle.no_plan_witness.specs.Witnesses.{IsWitnessOf}
use Rattle.no_plan_witness.proofs.Refuting.{stuck_refutes, stuck_answer, witness_sorted}
use Rattle.proof_search.specs.Searches.{IsSearch}
use Rattle.proof_search.specs.declared.question.Question.{Question}
use Rattle.proof_search.specs.Questions.{IsQuestion, IsSearchFor, IsRefutedOn, IsExhausted}

-- an ordered run is one from a start, with constants, that are the same
pub run_moved : (schema : SchemaParts) (firings : ℕ) (start : Proof) (known : List Value) (proof : Proving) →
    IsSearch schema firings start known proof → (log : List Firing) (end : Proof) →
    IsOrderedRun schema proof.constants 0 proof.start log end → IsOrderedRun schema known 0 start log end
run_moved schema firings start known proof search log end run =
    subst (λ from. IsOrderedRun schema known 0 from log end) search.begun
    (subst (λ constants. IsOrderedRun schema constants 0 proof.start log end) search.constants run)

-- a search of a query is a run from its opening proof
search_run : (schema : SchemaParts) (firings : ℕ) (query : Query) (known : List Value) (proof : Proving) →
    IsSearch schema firings (opening query) known proof → IsRun schema known 0 (opening query) (log_of proof) proof.end
search_run schema firings query known proof search =
    ordered_is_run schema known 0 (opening query) (log_of proof) proof.end
    (run_moved schema firings (opening query) known proof search (log_of proof) proof.end search.ordered)

-- what a search of a query keeps
search_keeps : (schema : SchemaParts) (firings : ℕ) (query : Query) (known : List Value) (proof : Proving) → RulesFit schema known →
    QueryFits schema query → QueryHasConstants known query → IsSearch schema firings (opening query) known proof →
    IsKept schema known query proof.end
search_keeps schema firings query known proof rules fits have search =
    kept_run schema known query 0 (opening query) (log_of proof) proof.end rules (kept_opening schema known query fits have)
    (search_run schema firings query known proof search)

-- that of a query with sorted atoms is sorted
search_sorted : (schema : SchemaParts) (firings : ℕ) (query : Query) (known : List Value) (proof : Proving) →
    AreNumbered schema.rules → AreSortedRules schema → AtomsAreSorted schema query.atoms →
    IsSearch schema firings (opening query) known proof → ProofIsSorted schema proof.end
search_sorted schema firings query known proof numbered rules atoms search =
    proof_sorted schema known 0 (opening query) (log_of proof) proof.end numbered rules
    (opening_sorted schema query atoms) (search_run schema firings query known proof search)

-- what is kept of a query with more atoms is kept of the query
kept_of_more : (schema : SchemaParts) (known : List Value) (query more : Query) (proof : Proof) → HasMore query more →
    IsKept schema known more proof → IsKept schema known query proof
kept_of_more schema known query more proof has kept = record {
  base_fits = kept.base_fits;
  copy_fits = kept.copy_fits;
  base_named = kept.base_named;
  copy_named = kept.copy_named;
  head_named = λ v c. kept.head_named v (subst (λ vals. Contains vals v) (sym heads) c);
  exposed_base = kept.exposed_base;
  exposed_copy = kept.exposed_copy;
  answered = (
    kept.answered.0,
    (λ atom c. kept.answered.1 atom (has.atoms atom c)),
    sym heads ∙ kept.answered.2 ∙ ap (map (value_of Const kept.answered.0)) has.head,
  );
}
  where
    heads : frozen_head more ≡ frozen_head query
    heads = ap (map (value_of Const Label)) has.head

-- a proof with the facts of a state in place of its copy facts
abbrev placed : Proof → State → Proof
placed end state = record { base = end.base; exposed = end.exposed; copy = state.facts; next = state.next }

module _ (question : Question) (is : IsQuestion question) where
  rules : RulesFit (meaning_of question.schema.now) question.known.now
  rules = rules_fit question.schema.now question.known.now is.known

  sorted_rules : AreSortedRules (meaning_of question.schema.now)
  sorted_rules = rules_sorted question.schema.now

  -- the pair of a sorted proof in which nothing is active and that has no goal
  refuting : (end : Proof) (pair : Witness) → IsKept (meaning_of question.schema.now) question.known.now question.query.now end →
      IsStuck (meaning_of question.schema.now) question.known.now question.queries.now end (frozen_head question.query.now) →
      ProofIsSorted (meaning_of question.schema.now) end →
      IsWitnessOf (meaning_of question.schema.now) question.known.now end.base end.copy question.head.now pair → IsRefutedOn question pair
  refuting end pair kept stuck sorted of_end =
      let schema = meaning_of question.schema.now in
      let known = question.known.now in
      let query = question.query.now in
      let fits : QueryFits schema query = (is.queries query is.among).fits in
      let its : IsWitnessOf schema known end.base end.copy (frozen_head query) pair =
      subst (λ vals. IsWitnessOf schema known end.base end.copy vals pair) is.head of_end in
      let integers : AreSortedFacts schema pair.first × AreSortedFacts schema pair.second =
      witness_sorted schema known end.base end.copy (frozen_head query) pair sorted.base sorted.copy its in
      record {
        refutes = λ statement stand. record {
          refutes = stuck_refutes schema known statement question.queries.now query end pair rules stand is.among
              (λ q among. (is.queries q among).constants) fits kept stuck its;
          first_sorted = integers.0;
          second_sorted = integers.1;
        };
        answered = stuck_answer schema known query end pair fits kept its;
        wide = ap length its.answer ∙ length-map (frozen_head query) (image (text_under its.names))
            ∙ length-map query.head (value_of Const Label);
      }

  -- that of the query's proof
  pub stuck_pair : (proof : Proving) → IsSearchFor question proof →
      (HasGoal question.queries.now proof.end question.head.now → ⊥) → IsAllQuiet (meaning_of question.schema.now) proof →
      (pair : Witness) → IsWitnessOf (meaning_of question.schema.now) question.known.now proof.end.base proof.end.copy question.head.now pair → IsRefutedOn question pair
  stuck_pair proof search none quiet pair of_end =
      let schema = meaning_of question.schema.now in
      let its = is.queries question.query.now is.among in
      refuting proof.end pair
      (search_keeps schema question.firings question.query.now question.known.now proof rules its.fits its.constants search)
      (record {
        base = quiet.base;
        exposures = subst (λ constants. NoExposure schema constants proof.end) search.constants quiet.exposures;
        copy = quiet.copy;
        goal = λ has. none (subst (HasGoal question.queries.now proof.end) (sym is.head) has);
      })
      (search_sorted schema question.firings question.query.now question.known.now proof rules.numbered sorted_rules
      its.sorted search) of_end

  -- the proof with a closing of its copy facts in their place
  kept_placed : (end : Proof) (state : State) → IsExhausted question end →
      IsClosing (meaning_of question.schema.now) end.copy end.next state →
      IsKept (meaning_of question.schema.now) question.known.now question.query.now (placed end state)
  kept_placed end state exhausted closing = record {
    base_fits = exhausted.kept.base_fits;
    copy_fits = closing.grows.fits exhausted.kept.copy_fits;
    base_named = λ fact v c i. later v (exhausted.kept.base_named fact v c i);
    copy_named = closing.grows.named question.known.now rules.have exhausted.kept.copy_named;
    head_named = λ v c. later v (exhausted.kept.head_named v c);
    exposed_base = exhausted.kept.exposed_base;
    exposed_copy = λ fact c. closing.grows.within fact (exhausted.kept.exposed_copy fact c);
    answered = exhausted.kept.answered;
  }
    where
      later : (v : Val) → IsNamed question.known.now end.next v → IsNamed question.known.now state.next v
      later v = named_more question.known.now end.next state.next v closing.grows.later

  stuck_placed : (end : Proof) (state : State) → IsExhausted question end →
      IsClosing (meaning_of question.schema.now) end.copy end.next state →
      ((query : Query) → Contains question.queries.now query →
      IsQueryAnswer Const (GroundsOf state.facts) query question.head.now → ⊥) →
      IsStuck (meaning_of question.schema.now) question.known.now question.queries.now (placed end state)
      (frozen_head question.query.now)
  stuck_placed end state exhausted closing none = record {
    base = met_quiet question.schema.now.rules (base_state (placed end state)) exhausted.met;
    exposures = λ number fact method active. exhausted.exposures number fact method (record {
      of_base = active.of_base;
      new = active.new;
      named = active.named;
      of_relation = active.of_relation;
      inputs = active.inputs;
    });
    copy = closing.quiet;
    goal = λ (query, among, answer).
        none query among (subst (IsQueryAnswer Const (GroundsOf state.facts) query) (sym is.head) answer);
  }

  -- integers stay where they are in the base facts, and come into the closing
  sorted_placed : (end : Proof) (state : State) → IsExhausted question end →
      IsClosing (meaning_of question.schema.now) end.copy end.next state →
      ProofIsSorted (meaning_of question.schema.now) (placed end state)
  sorted_placed end state exhausted closing = record {
    base = exhausted.sorted.base;
    exposed = exhausted.sorted.exposed;
    copy = closing.grows.sorted sorted_rules exhausted.sorted.copy;
  }

  -- base facts of which all that can be exposed are, beside a closing of these without the head
  pub closing_pair : (end : Proof) (state : State) (pair : Witness) → IsExhausted question end →
      IsClosing (meaning_of question.schema.now) end.copy end.next state →
      ((query : Query) → Contains question.queries.now query →
      IsQueryAnswer Const (GroundsOf state.facts) query question.head.now → ⊥) →
      IsWitnessOf (meaning_of question.schema.now) question.known.now end.base state.facts question.head.now pair → IsRefutedOn question pair
  closing_pair end state pair exhausted closing none of_pair =
      refuting (placed end state) pair (kept_placed end state exhausted closing)
      (stuck_placed end state exhausted closing none) (sorted_placed end state exhausted closing) of_pair

  module _ (more : Query) (closed : IsClosed (meaning_of question.schema.now) question.query.now more) where
    pub fits_more : QueryFits (meaning_of question.schema.now) more
    fits_more = closed.fits (is.queries question.query.now is.among).fits

    known_more : QueryHasConstants question.known.now more
    known_more = closed.constants question.known.now rules.have (is.queries question.query.now is.among).constants

    sorted_more : AtomsAreSorted (meaning_of question.schema.now) more.atoms
    sorted_more = closed.sorted sorted_rules (is.queries question.query.now is.among).sorted

    -- no rule is active where a proof of the closed query begins
    pub met_first : (proof : Proving) → IsOrdered (meaning_of question.schema.now) proof → proof.start ≡ opening more → proof.entries ≡ [] →
        MeetsAll Const (GroundsOf proof.end.base) question.schema.now.rules
    met_first proof ordered start empty =
        let schema = meaning_of question.schema.now in
        let first : proof.end ≡ proof.start =
        subst (λ entries. IsOrderedRun schema proof.constants 0 proof.start (firings_of entries) proof.end) empty ordered in
        let base : (opening_state more).facts ≡ proof.end.base = sym (ap (λ (p : Proof). p.base) (first ∙ start)) in
        subst (λ facts. MeetsAll Const (GroundsOf facts) question.schema.now.rules) base
        (quiet_meets question.schema.now.rules (opening_state more) rules.numbered closed.quiet)

    -- a proof of the closed query in which no exposure is active
    pub exhausted_of : {firings : ℕ} → (old new : Proving) → old.start ≡ opening more → old.constants ≡ question.known.now →
        IsSearch (meaning_of question.schema.now) firings old.start old.constants new →
        MeetsAll Const (GroundsOf new.end.base) question.schema.now.rules →
        NoExposure (meaning_of question.schema.now) new.constants new.end → IsExhausted question new.end
    exhausted_of {firings} old new start constants search met none =
        let schema = meaning_of question.schema.now in
        let its : IsSearch schema firings (opening more) question.known.now new =
        subst (λ from. IsSearch schema firings from question.known.now new) start
        (subst (λ known. IsSearch schema firings old.start known new) constants search) in
        record {
          kept = kept_of_more schema question.known.now question.query.now more new.end closed.more_atoms
              (search_keeps schema firings more question.known.now new rules fits_more known_more its);
          met = met;
          sorted = search_sorted schema firings more question.known.now new rules.numbered sorted_rules sorted_more its;
          exposures = subst (λ known. NoExposure schema known new.end) its.constants none;
        }
