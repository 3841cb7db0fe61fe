-- The three parts of a log: base firings, exposures and copy firings.
use Rattle.std.proofs.Common.{◌≡◌, ℕ, ◌*◌, ◌≤◌, List, [], ◌∷◌, ◌++◌, length, refl, sym, ap, ◌∙◌, subst, ⊎_elim, arith, append_assoc}
use Rattle.std.specs.Prelude.{Contains, slice_get, Some}
use Rattle.std.specs.List.{AllZip}
use Rattle.std.proofs.lemmas.List.{append-nil}
use Rattle.lists.proofs.Members.{contains_cases, contains_got, contains_here, contains_there}
use Rattle.meaning.specs.declared.types.SchemaParts.{SchemaParts}
use Rattle.meaning.specs.declared.types.Relation.{Relation}
use Rattle.meaning.specs.declared.types.Method.{Method}
use Rattle.meaning.specs.declared.types.Query.{Query}
use Rattle.meaning.specs.declared.types.Ground.{Ground}
use Rattle.meaning.specs.declared.types.Trigger.{Trigger}
use Rattle.meaning.specs.declared.types.Firing.{Firing}
use Rattle.meaning.specs.declared.types.Firing.TheVariants.{Base, Copy, Expose}
use Rattle.meaning.specs.Values.{Value}
use Rattle.meaning.specs.Triggers.{State, IsFiringRun}
use Rattle.meaning.specs.Runs.{Proof, base_state, copy_state, IsRun, part_of, last_part, opening, opening_state}
use Rattle.meaning.specs.Fitting.{RulesFit, QueryFits, QueryHasConstants}
use Rattle.meaning.specs.Extract.{Exposure, exposed_facts, IsExposing, columns_after, steps_of}
use Rattle.meaning_laws.proofs.Decided.{copy_part}
use Rattle.meaning_laws.proofs.Keeping.{run_keeps}
use Rattle.meaning_laws.proofs.Kept.{kept_opening}
use Rattle.access_schema.specs.declared.schema.Schema.{Schema}
use Rattle.plan_extract.specs.Lent.{values_in}
use Rattle.accessible_copy.specs.declared.entry.Exposed.{Exposed}
use Rattle.accessible_copy.specs.Proving.{Proving, IsProofOf, log_of}
use Rattle.accessible_copy.proofs.Writing.{written_run}
use Rattle.plan_extract.specs.Trimmed.{IsShown}
use Rattle.plan_extract.proofs.Zips.{zip_from}
use Rattle.accessible_copy.proofs.Shown.{shown_in, shown_of}

module _ (schema : SchemaParts) (constants : List Value) where
  -- a run never goes back to an earlier part
  pub rises : (part : ℕ) (proof : Proof) (log : List Firing) (end : Proof) → IsRun schema constants part proof log end → part ≤ last_part part log
  rises part proof [] end run = omega arith
  rises part proof (firing ∷ log) end (order, (next, fires, more)) = let on = rises (part_of firing) next log end more in omega arith

  none_behind : (proof : Proof) (log : List Firing) (end : Proof) → IsRun schema constants 2 proof log end → shown_of log ≡ []
  none_behind proof [] end run = refl
  none_behind proof (Base trigger ∷ log) end (order, rest) = absurd (omega arith)
  none_behind proof (Expose number fact ∷ log) end (order, rest) = absurd (omega arith)
  none_behind proof (Copy trigger ∷ log) end (order, (next, fires, more)) = none_behind next log end more

  -- behind the base firings the base facts stay
  base_stays : (part : ℕ) (proof : Proof) (log : List Firing) (end : Proof) → 1 ≤ part → IsRun schema constants part proof log end → end.base ≡ proof.base
  base_stays part proof [] end low run = ap (λ (p : Proof). p.base) run
  base_stays part proof (Base trigger ∷ log) end low (order, rest) = absurd (omega arith)
  base_stays part proof (Expose number fact ∷ log) end low (order, (next, (method, active, quiet, e), more)) = base_stays 1 next log end (omega arith) more ∙ ap (λ (p : Proof). p.base) e
  base_stays part proof (Copy trigger ∷ log) end low (order, (next, (rule, first, quiet, e), more)) = base_stays 2 next log end (omega arith) more ∙ ap (λ (p : Proof). p.base) e

  -- the exposures and the copy firings of a log
  record Reads (proof end : Proof) (log : List Firing) : Type 0 where
    exposures : List Exposure
    shown : AllZip (IsShown schema) (shown_of log) exposures
    exposing : IsExposing schema constants proof.base proof.exposed exposures
    copy : List Trigger
    run : IsFiringRun schema.rules (record { facts = proof.copy ++ exposed_facts exposures; next = proof.next }) copy (copy_state end)
    early : last_part 1 log ≤ 1 → copy ≡ []

  reads_none : (proof end : Proof) (log : List Firing) (copy : List Trigger) → shown_of log ≡ [] → IsFiringRun schema.rules (copy_state proof) copy (copy_state end) → (last_part 1 log ≤ 1 → copy ≡ []) → Reads proof end log
  reads_none proof end log copy none run early = record {
    exposures = [];
    shown = subst (λ list. AllZip (IsShown schema) list []) (sym none) tt;
    exposing = tt;
    copy = copy;
    run = subst (λ facts. IsFiringRun schema.rules (record { facts = facts; next = proof.next }) copy (copy_state end)) (sym (append-nil proof.copy)) run;
    early = early;
  }

  reads : (proof : Proof) (log : List Firing) (end : Proof) → IsRun schema constants 1 proof log end → Reads proof end log
  reads proof [] end run = reads_none proof end [] [] refl (ap (λ p. copy_state p) run) (λ low. refl)
  reads proof (Base trigger ∷ log) end (order, rest) = absurd (omega arith)
  reads proof (Copy trigger ∷ log) end (order, rest) =
      let behind : IsRun schema constants 2 proof (Copy trigger ∷ log) end = (omega arith, rest) in
      let (copy, run, same) = copy_part schema constants proof (Copy trigger ∷ log) end behind in
      let on : 2 ≤ last_part 2 (Copy trigger ∷ log) = rises 2 proof (Copy trigger ∷ log) end behind in
      reads_none proof end (Copy trigger ∷ log) copy (none_behind proof (Copy trigger ∷ log) end behind) run (λ low. absurd (late (last_part 2 log) on low))
    where
      late : (n : ℕ) → 2 ≤ n → n ≤ 1 → ⊥
      late n high low = omega arith
  reads proof (Expose number fact ∷ log) end (order, (next, (method, active, quiet, e), more)) =
      let rest = reads (record proof { exposed = proof.exposed ++ fact ∷ []; copy = proof.copy ++ fact ∷ [] }) log end (subst (λ p. IsRun schema constants 1 p log end) e more) in
      record {
        exposures = record { method = method; fact = fact } ∷ rest.exposures;
        shown = ((active.named, refl), rest.shown);
        exposing = (record { of_base = active.of_base; new = active.new; of_schema = contains_got schema.methods number method active.named; of_relation = active.of_relation; inputs = active.inputs }, rest.exposing);
        copy = rest.copy;
        run = subst (λ facts. IsFiringRun schema.rules (record { facts = facts; next = proof.next }) rest.copy (copy_state end)) (append_assoc proof.copy (fact ∷ []) (exposed_facts rest.exposures)) rest.run;
        early = rest.early;
      }

  -- the three parts of a log
  pub record Derives (proof end : Proof) (log : List Firing) : Type 0 where
    pub base : List Trigger
    pub middle : State
    pub base_run : IsFiringRun schema.rules (base_state proof) base middle
    pub same_base : end.base ≡ middle.facts
    pub exposures : List Exposure
    pub shown : AllZip (IsShown schema) (shown_of log) exposures
    pub exposing : IsExposing schema constants middle.facts [] exposures
    pub copy : List Trigger
    pub copy_run : IsFiringRun schema.rules (record { facts = exposed_facts exposures; next = middle.next }) copy (copy_state end)
    pub early : last_part 0 log ≤ 1 → copy ≡ []

  from_reads : (proof end : Proof) (log : List Firing) → proof.exposed ≡ [] → proof.copy ≡ [] → end.base ≡ proof.base → (last_part 0 log ≤ 1 → last_part 1 log ≤ 1) → Reads proof end log → Derives proof end log
  from_reads proof end log none bare same low its = record {
    base = [];
    middle = base_state proof;
    base_run = refl;
    same_base = same;
    exposures = its.exposures;
    shown = its.shown;
    exposing = subst (λ exposed. IsExposing schema constants proof.base exposed its.exposures) none its.exposing;
    copy = its.copy;
    copy_run = subst (λ facts. IsFiringRun schema.rules (record { facts = facts ++ exposed_facts its.exposures; next = proof.next }) its.copy (copy_state end)) bare its.run;
    early = λ l. its.early (low l);
  }

  pub derives : (proof : Proof) (log : List Firing) (end : Proof) → IsRun schema constants 0 proof log end → proof.exposed ≡ [] → proof.copy ≡ [] → Derives proof end log
  derives proof [] end run none bare = from_reads proof end [] none bare (ap (λ (p : Proof). p.base) run) (λ l. omega arith) (reads proof [] end run)
  derives proof (Expose number fact ∷ log) end (order, rest) none bare =
      let on : IsRun schema constants 1 proof (Expose number fact ∷ log) end = (omega arith, rest) in
      from_reads proof end (Expose number fact ∷ log) none bare (base_stays 1 proof (Expose number fact ∷ log) end (omega arith) on) (λ l. l) (reads proof (Expose number fact ∷ log) end on)
  derives proof (Copy trigger ∷ log) end (order, rest) none bare =
      let on : IsRun schema constants 1 proof (Copy trigger ∷ log) end = (omega arith, rest) in
      from_reads proof end (Copy trigger ∷ log) none bare (base_stays 1 proof (Copy trigger ∷ log) end (omega arith) on) (λ l. l) (reads proof (Copy trigger ∷ log) end on)
  derives proof (Base trigger ∷ log) end (order, (next, (rule, first, e), more)) none bare =
      let rest = derives next log end more (ap (λ (p : Proof). p.exposed) e ∙ none) (ap (λ (p : Proof). p.copy) e ∙ bare) in
      record {
        base = trigger ∷ rest.base;
        middle = rest.middle;
        base_run = (rule, first.active.trigger_is, subst (λ s. IsFiringRun schema.rules s rest.base rest.middle) (ap (λ p. base_state p) e) rest.base_run);
        same_base = rest.same_base;
        exposures = rest.exposures;
        shown = rest.shown;
        exposing = rest.exposing;
        copy = rest.copy;
        copy_run = rest.copy_run;
        early = rest.early;
      }

  pub exposing_each : (base exposed : List Ground) (exposures : List Exposure) → IsExposing schema constants base exposed exposures → (e : Exposure) → Contains exposures e → Contains base e.fact × Contains schema.methods e.method
  exposing_each base exposed [] is e c = absurd (omega arith)
  exposing_each base exposed (first ∷ exposures) (its, rest) e c =
      ⊎_elim (λ same. subst (λ (x : Exposure). Contains base x.fact × Contains schema.methods x.method) same (its.of_base, its.of_schema)) (λ i. exposing_each base (exposed ++ first.fact ∷ []) exposures rest e i) (contains_cases first exposures e c)

  -- each exposed fact is as wide as its relation
  pub narrow_facts : (query : Query) (log : List Firing) (end : Proof) → RulesFit schema constants → QueryFits schema query → QueryHasConstants constants query → (its : Derives (opening query) end log) →
      ((relation : Relation) (rel : ℕ) → slice_get schema.relations rel ≡ Some relation → length relation.columns ≤ 64) → (e : Exposure) → Contains its.exposures e → length e.fact.vals ≤ 64
  narrow_facts query log end rules fits have its narrow e c =
      let opened = kept_opening schema constants query fits have in
      let kept = run_keeps schema constants its.base (opening_state query) its.middle rules opened.base_named opened.base_fits its.base_run in
      let fit = kept.fit e.fact (exposing_each its.middle.facts [] its.exposures its.exposing e c).0 in
      let columns = narrow fit.relation e.fact.rel fit.there in
      let wide = fit.width in
      omega arith

-- facts of at most 64 values each have few values together
pub values_bound : (exposures : List Exposure) → ((e : Exposure) → Contains exposures e → length e.fact.vals ≤ 64) → values_in exposures ≤ 64 * length exposures
values_bound [] narrow = omega arith
values_bound (e ∷ exposures) narrow =
    let first = narrow e (contains_here e exposures) in
    let rest = values_bound exposures (λ other c. narrow other (contains_there e exposures other c)) in
    omega arith

-- the relations of a schema have few columns
pub schema_narrow : (schema : Schema) (relation : Relation) (rel : ℕ) → slice_get schema.relations rel ≡ Some relation → length relation.columns ≤ 64
schema_narrow schema relation rel there = (schema.valid.relations_are.columns relation (contains_got schema.relations rel relation there)).few

-- the method of an exposed fact is one of the schema
pub method_of : (schema : SchemaParts) (proof : Proving) → IsProofOf schema proof → (k : ℕ) (x : Exposed) → slice_get proof.exposed k ≡ Some x → (method : Method) × (slice_get schema.methods x.method ≡ Some method)
method_of schema proof is k x got =
    let d = derives schema proof.constants proof.start (log_of proof) proof.end (written_run schema proof.constants 0 proof.start proof.entries proof.end is.written) is.none_exposed is.none_copied in
    let (e, at, there) = zip_from (IsShown schema) proof.exposed d.exposures k x (subst (λ list. AllZip (IsShown schema) list d.exposures) (sym (is.exposed ∙ shown_in proof.entries)) d.shown) got in
    (e.method, there.0)

-- a step for each exposure
pub steps_long : (columns : List ℕ) (exposures : List Exposure) → length (steps_of columns exposures) ≡ length exposures
steps_long columns [] = refl
steps_long columns (e ∷ exposures) = let rest = steps_long (columns_after columns e.fact.vals) exposures in omega arith
