-- What firing and exposing keep of a search.
use Rattle.std.proofs.Common.{◌≡◌, ℕ, ◌+◌, ◌<◌, ◌≤◌, List, [], ◌∷◌, ◌++◌, Bool, true, false, length, refl, sym, ap, ◌∙◌, subst, ⊎_elim, arith}
use Rattle.std.specs.Prelude.{Contains, map}
use Rattle.std.proofs.lemmas.Bool.{cases_lt}
use Rattle.std.proofs.lemmas.List.{length_push}
use Rattle.std.proofs.lemmas.List.Elements.{Contains-append_left}
use Rattle.meaning.specs.declared.types.SchemaParts.{SchemaParts}
use Rattle.meaning.specs.declared.types.Ground.{Ground}
use Rattle.meaning.specs.declared.types.Trigger.{Trigger}
use Rattle.meaning.specs.declared.types.Firing.{Firing}
use Rattle.meaning.specs.declared.types.Firing.TheVariants.{Expose}
use Rattle.meaning.specs.declared.types.Val.TheVariants.{Const}
use Rattle.meaning.specs.Values.{Value}
use Rattle.meaning.specs.Matching.{MeetsAll, GroundsOf}
use Rattle.meaning.specs.Runs.{Proof, base_state, copy_state, last_part, IsOrderedRun, IsBaseQuiet, IsCopyQuiet, IsKnownValue, IsActiveExposure, NoExposure}
use Rattle.rule_pass.specs.States.{SomeActive}
use Rattle.rule_pass.proofs.OnePass.{met_quiet}
use Rattle.accessible_copy.specs.declared.entry.Entry.{Entry}
use Rattle.accessible_copy.specs.Known.{facts_of}
use Rattle.accessible_copy.specs.Proving.{Proving, IsProofOf, IsOrdered, log_of, sizes_of, firings_of}
use Rattle.accessible_copy.specs.Written.{firing_of}
use Rattle.accessible_copy.specs.Settling.{Settles, CanFollow}
use Rattle.accessible_copy.specs.Exposing.{with_exposure}
use Rattle.accessible_copy.specs.Rounds.{IsAllQuiet, GoesOn}
use Rattle.accessible_copy.proofs.Writing.{firings_on}
use Rattle.accessible_copy.proofs.Pushing.{goes_copy}
use Rattle.accessible_copy.specs.Listing.{CanFire}
use Rattle.accessible_copy.proofs.BaseStaysMet.{exposure_stays}
use Rattle.proof_search.specs.Searches.{IsSearch, IsExposure, Exposes}
use Rattle.plan_extract.proofs.Shown.{end_exposed}
use Rattle.plan_extract.proofs.GoingBack.{last_push}

base_part : (more : List Trigger) → last_part 0 (map (firing_of false) more) ≡ 0
base_part [] = refl
base_part (trigger ∷ more) = base_part more

-- after base firings alone no exposure was made
pub settled_part : (schema : SchemaParts) (old new : Proving) → old.entries ≡ [] → Settles schema false old new → last_part 0 (log_of new) ≤ 1
settled_part schema old new none its =
    let all : log_of new ≡ map (firing_of false) its.more = its.log ∙ ap (λ entries. firings_of entries ++ map (firing_of false) its.more) none in
    let zero_part : last_part 0 (log_of new) ≡ 0 = ap (last_part 0) all ∙ base_part its.more in
    omega arith

pub settled_search : (schema : SchemaParts) (firings : ℕ) (copies : Bool) (old new : Proving) → IsSearch schema firings old.start old.constants old → CanFollow copies schema old →
    Settles schema copies old new → IsProofOf schema new → length new.entries ≤ firings → IsSearch schema firings old.start old.constants new
settled_search schema firings copies old new search can its is few = record {
  run = is;
  begun = its.start;
  constants = its.constants;
  ordered = subst (λ start. IsOrderedRun schema new.constants 0 start (log_of new) new.end) (sym its.start)
      (subst (λ constants. IsOrderedRun schema constants 0 old.start (log_of new) new.end) (sym its.constants) (its.ordered can search.ordered));
  few = few;
}

-- ---- copy firings

module _ (schema : SchemaParts) (old new : Proving) (first : IsProofOf schema old) (second : IsProofOf schema new) (its : Settles schema true old new)
    (met : MeetsAll Const (GroundsOf old.end.base) schema.rules) (bare : NoExposure schema old.constants old.end) where
  exposed_same : new.end.exposed ≡ old.end.exposed
  exposed_same = end_exposed schema new second ∙ ap facts_of its.exposed ∙ sym (end_exposed schema old first)

  copies_bare : NoExposure schema new.constants new.end
  copies_bare number fact method active = bare number fact method (record {
    of_base = subst (λ facts. Contains facts fact) its.stays active.of_base;
    new = λ among. active.new (subst (λ facts. Contains facts fact) (sym exposed_same) among);
    named = active.named;
    of_relation = active.of_relation;
    inputs = λ p among.
        let (value, at, known) = active.inputs p among in
        (value, at, subst (λ facts. IsKnownValue old.constants facts value) exposed_same (subst (λ constants. IsKnownValue constants new.end.exposed value) its.constants known));
  })

  base_quiet : IsBaseQuiet schema new.end
  base_quiet = met_quiet schema.rules (base_state new.end) (subst (λ facts. MeetsAll Const (GroundsOf facts) schema.rules) (sym its.stays) met)

  pub copies_quiet : IsCopyQuiet schema new.end → IsAllQuiet schema new
  copies_quiet quiet = record { base = base_quiet; exposures = copies_bare; copy = quiet }

  pub copies_go_on : IsOrdered schema new → SomeActive schema.rules (copy_state new.end) → GoesOn schema new
  copies_go_on ordered some = goes_copy schema new second ordered base_quiet copies_bare some

-- ---- exposures

pub exposes_more : (schema : SchemaParts) (firings : ℕ) (old now next : Proving) (number : ℕ) (fact : Ground) → Exposes schema firings old now → next ≡ with_exposure now number fact → IsProofOf schema next →
    IsOrdered schema next → length now.entries < firings → Exposes schema firings old next × (length now.entries < length next.entries)
exposes_more schema firings old now next number fact so_far e is ordered room =
    let entry : Entry = record { firing = Expose number fact; before = sizes_of now.constants now.end } in
    let long : length next.entries ≡ length now.entries + 1 = ap (λ (p : Proving). length p.entries) e ∙ length_push now.entries entry in
    let begun : next.start ≡ now.start = ap (λ (p : Proving). p.start) e in
    let constants : next.constants ≡ now.constants = ap (λ (p : Proving). p.constants) e in
    let log : log_of next ≡ log_of now ++ Expose number fact ∷ [] = ap (λ (p : Proving). log_of p) e ∙ firings_on now.entries (entry ∷ []) in
    let last : last_part 0 (log_of next) ≡ 1 = ap (last_part 0) log ∙ last_push 0 (log_of now) (Expose number fact) in
    let longer = so_far.longer in (
      record {
        search = record {
          run = is;
          begun = begun ∙ so_far.search.begun;
          constants = constants ∙ so_far.search.constants;
          ordered = ordered;
          few = omega arith;
        };
        base = ap (λ (p : Proving). p.end.base) e ∙ so_far.base;
        part = omega arith;
        more = λ other among. subst (λ facts. Contains facts other) (sym (ap (λ (p : Proving). p.end.exposed) e)) (Contains-append_left now.end.exposed (fact ∷ []) other (so_far.more other among));
        longer = omega arith;
      },
      omega arith,
    )

pub later_search : (schema : SchemaParts) (firings : ℕ) (start : Proof) (known : List Value) (old new : Proving) → IsSearch schema firings start known old → IsSearch schema firings old.start old.constants new → IsSearch schema firings start known new
later_search schema firings start known old new first second =
    record { run = second.run; begun = second.begun ∙ first.begun; constants = second.constants ∙ first.constants; ordered = second.ordered; few = second.few }

-- where the first firing of a list was made, the log is longer
pub made_one : (n old now : ℕ) → (n ≡ 0 → ⊥) → (1 ≤ n → old < now) → old < now
made_one n old now never longer = ⊎_elim (λ some. longer (omega arith)) (λ none. absurd (never (omega arith))) (cases_lt 0 n)

pub some_left : (n : ℕ) → (n ≡ 0 → false ≡ true) → 0 < n
some_left n never = ⊎_elim (λ some. some) (λ none. let yes : false ≡ true = never (omega arith) in absurd (cc)) (cases_lt 0 n)

module _ (schema : SchemaParts) (old : Proving) (found : List Firing) (active : (firing : Firing) → Contains found firing → IsExposure schema old firing)
    (item : Firing) (among : Contains found item) (number : ℕ) (fact : Ground) (at : item ≡ Expose number fact) where
  -- the item is active at first
  pub was_active : CanFire schema old number fact
  was_active =
      let (n, f, e, (method, is)) = active item among in
      let same : Expose number fact ≡ Expose n f = sym at ∙ e in
      let number_same : n ≡ number = cc in
      let fact_same : f ≡ fact = cc in
      (method, subst (λ m. IsActiveExposure schema old.constants old.end m fact method) number_same (subst (λ g. IsActiveExposure schema old.constants old.end n g method) fact_same is))

  -- and stays so until its fact is exposed
  pub still_active : (firings : ℕ) (now : Proving) → Exposes schema firings old now → (Contains now.end.exposed fact → ⊥) → CanFire schema now number fact
  still_active firings now so_far not =
      let (method, is) = was_active in
      (method, exposure_stays schema old now number fact method so_far.search.constants so_far.base so_far.more not is)

  -- so its fact is new at first
  pub was_new : (now : Proving) → now ≡ old → Contains now.end.exposed fact → ⊥
  was_new now same there = let (method, is) = was_active in is.new (subst (λ (p : Proving). Contains p.end.exposed fact) same there)
