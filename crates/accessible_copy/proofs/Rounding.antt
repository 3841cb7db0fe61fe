-- Rounds: parts of one kind, and exposures one after another.
use Rattle.std.proofs.Common.{◌≡◌, ℕ, ◌<◌, ◌≤◌, max, List, [], ◌∷◌, ◌++◌, length, map, refl, sym, ap, ◌∙◌, subst, inl, inr, ⊎_elim, arith, append_assoc, Bool, true, false}
use Rattle.std.specs.Prelude.{Contains, Result, Ok, Err, OnOk}
use Rattle.std.proofs.lemmas.List.{append-nil, map-append}
use Rattle.std.proofs.lemmas.List.Elements.{Contains-append_left, Contains-push_cases}
use Rattle.lists.proofs.Members.{contains_here, contains_mapped, contains_none}
use Rattle.meaning.specs.declared.types.SchemaParts.{SchemaParts}
use Rattle.meaning.specs.declared.types.Trigger.{Trigger}
use Rattle.meaning.specs.declared.types.Ground.{Ground}
use Rattle.meaning.specs.declared.types.Firing.{Firing}
use Rattle.meaning.specs.declared.types.Firing.TheVariants.{Expose}
use Rattle.meaning.specs.Triggers.{IsQuiet}
use Rattle.meaning.specs.Runs.{base_state, copy_state, part_of, last_part, IsOrderedRun, IsBaseQuiet, NoExposure}
use Rattle.meaning_laws.proofs.Deciding.{quiet_meets}
use Rattle.rule_pass.specs.States.{SomeActive}
use Rattle.rule_pass.proofs.OnePass.{met_quiet}
use Rattle.accessible_copy.specs.declared.entry.Exposed.{Exposed}
use Rattle.accessible_copy.specs.declared.settling.Round.{Round}
use Rattle.accessible_copy.specs.declared.settling.Round.TheVariants.{Quiet, Done, Spent}
use Rattle.accessible_copy.specs.Known.{facts_of}
use Rattle.accessible_copy.specs.Written.{firing_of}
use Rattle.accessible_copy.specs.Proving.{Proving, IsProofOf, log_of, exposed_in, sizes_of, IsOrdered}
use Rattle.accessible_copy.specs.Settling.{Settles, CanFollow, kind_state}
use Rattle.accessible_copy.specs.Exposing.{with_exposure}
use Rattle.accessible_copy.specs.Listing.{CanFire, AreExposures}
use Rattle.accessible_copy.specs.Rounds.{GoesOn, IsOneRound, exposure_of, MadeExposures, SomeExposure, MayExpose, IsDone}
use Rattle.accessible_copy.proofs.Writing.{written_exposed, firings_on}
use Rattle.accessible_copy.proofs.Listed.{number_is, fact_is}
use Rattle.accessible_copy.proofs.BaseStaysMet.{exposure_stays}
use Rattle.accessible_copy.proofs.Pushing.{goes_base, goes_copy, expose_low}

-- the part of a log that goes on
last_part_on : (part : ℕ) (log more : List Firing) → last_part part (log ++ more) ≡ last_part (last_part part log) more
last_part_on part [] more = refl
last_part_on part (firing ∷ log) more = last_part_on (part_of firing) log more

-- the exposed facts, with and without their methods
pub exposed_facts : (schema : SchemaParts) (proof : Proving) → IsProofOf schema proof → proof.end.exposed ≡ facts_of proof.exposed
exposed_facts schema proof is =
    written_exposed schema proof.constants 0 proof.start proof.entries proof.end is.written
    ∙ ap (λ (l : List Ground). l ++ facts_of (exposed_in proof.entries)) is.none_exposed ∙ ap facts_of (sym is.exposed)

-- an order that lasts under other names
pub ordered_as : (schema : SchemaParts) (old new : Proving) → new.constants ≡ old.constants → new.start ≡ old.start → IsOrderedRun schema old.constants 0 old.start (log_of new) new.end → IsOrdered schema new
ordered_as schema old new c s run = rw (c, s) run

-- nothing happens
pub none_round : (old : Proving) → IsOneRound old old
none_round old = record { part = 0; more = []; log = sym (append-nil (log_of old)); of_part = λ firing among. absurd (contains_none firing among); constants = refl; start = refl }

-- one kind of rules
pub settled_round : (schema : SchemaParts) (copies : Bool) (old new : Proving) → Settles schema copies old new → IsOneRound old new
settled_round schema copies old new s = record {
  part = part_of_kind copies;
  more = map (firing_of copies) s.more;
  log = s.log;
  of_part = λ firing among. let (trigger, in_more, e) = contains_mapped (firing_of copies) s.more firing among in subst (λ f. part_of f ≡ part_of_kind copies) e (by copies trigger);
  constants = s.constants;
  start = s.start;
}
  where
    part_of_kind : Bool → ℕ
    part_of_kind true = 2
    part_of_kind false = 0

    by : (kind : Bool) (trigger : Trigger) → part_of (firing_of kind trigger) ≡ part_of_kind kind
    by true trigger = refl
    by false trigger = refl

pub settled_ordered : (schema : SchemaParts) (copies : Bool) (old new : Proving) → Settles schema copies old new → IsOrdered schema old → (copies ≡ true → NoExposure schema old.constants old.end) → IsOrdered schema new
settled_ordered schema copies old new s ordered bare = ordered_as schema old new s.constants s.start (s.ordered (follow copies bare) ordered)
  where
    follow : (kind : Bool) → (kind ≡ true → NoExposure schema old.constants old.end) → CanFollow kind schema old
    follow true bare = bare refl
    follow false bare = tt

-- what stays where copy rules are fired
module _ (schema : SchemaParts) (old new : Proving) (was : IsProofOf schema old) (is : IsProofOf schema new) where
  copied_quiet : new.end.base ≡ old.end.base → IsBaseQuiet schema old.end → IsBaseQuiet schema new.end
  copied_quiet same quiet = met_quiet schema.rules (base_state new.end) (rw same (quiet_meets schema.rules (base_state old.end) was.numbered quiet))

  copied_bare : Settles schema true old new → NoExposure schema old.constants old.end → NoExposure schema new.constants new.end
  copied_bare s bare number fact method active =
      let shown : new.end.exposed ≡ old.end.exposed = exposed_facts schema new is ∙ ap facts_of s.exposed ∙ sym (exposed_facts schema old was) in
      bare number fact method (record {
        of_base = subst (λ facts. Contains facts fact) s.stays active.of_base;
        new = λ c. active.new (rw shown c);
        named = active.named;
        of_relation = active.of_relation;
        inputs = rw (s.constants, shown) at active.inputs;
      })

  -- a part that the budget ended goes on
  pub settled_goes : (copies : Bool) → Settles schema copies old new → IsOrdered schema new → (copies ≡ true → IsBaseQuiet schema old.end) → (copies ≡ true → NoExposure schema old.constants old.end) → SomeActive schema.rules (kind_state copies new.end) → GoesOn schema new
  settled_goes true s ordered quiet bare some = goes_copy schema new is ordered (copied_quiet s.stays (quiet refl)) (copied_bare s (bare refl)) some
  settled_goes false s ordered quiet bare some = goes_base schema new is ordered some

-- exposures one after another
pub record IsExposing (schema : SchemaParts) (old now : Proving) (passed : List Firing) (budget : ℕ) : Type 0 where
  pub is : IsProofOf schema now
  pub ordered : IsOrdered schema now
  pub made : MadeExposures schema old now
  pub part : last_part 0 (log_of now) ≤ 1
  pub shown : (number : ℕ) (fact : Ground) → Contains passed (Expose number fact) → Contains now.end.exposed fact
  pub room : length now.entries ≤ max (length old.entries) budget

pub made_quiet : (schema : SchemaParts) (old now : Proving) → MadeExposures schema old now → IsBaseQuiet schema old.end → IsBaseQuiet schema now.end
made_quiet schema old now made quiet = rw (made.base, made.next) quiet

pub made_none : (schema : SchemaParts) (old : Proving) → MadeExposures schema old old
made_none schema old = record {
  more = [];
  log = sym (append-nil (log_of old));
  exposed = sym (append-nil old.exposed);
  active = λ one among. absurd (contains_none one among);
  base = refl;
  next = refl;
  constants = refl;
  start = refl;
}

pub exposing_none : (schema : SchemaParts) (old : Proving) (budget : ℕ) → IsProofOf schema old → IsOrdered schema old → SomeExposure schema old → IsExposing schema old old [] budget
exposing_none schema old budget is ordered (number, fact, (method, active)) = record {
  is = is;
  ordered = ordered;
  made = made_none schema old;
  part = expose_low schema old is ordered number fact method active;
  shown = λ number fact among. absurd (contains_none (Expose number fact) among);
  room = omega arith;
}

module _ (schema : SchemaParts) (old now : Proving) (was : IsProofOf schema old) (is : IsProofOf schema now) (made : MadeExposures schema old now) where
  exposed_more : now.end.exposed ≡ old.end.exposed ++ facts_of made.more
  exposed_more = exposed_facts schema now is ∙ ap facts_of made.exposed ∙ map-append (λ (one : Exposed). one.fact) old.exposed made.more ∙ ap (λ (l : List Ground). l ++ facts_of made.more) (sym (exposed_facts schema old was))

  -- an exposure that was active is active until its fact is exposed
  pub still_active : (number : ℕ) (fact : Ground) → CanFire schema old number fact → (Contains now.end.exposed fact → ⊥) → CanFire schema now number fact
  still_active number fact (method, active) not =
      (method, exposure_stays schema old now number fact method made.constants made.base (λ other c. rw exposed_more (Contains-append_left old.end.exposed (facts_of made.more) other c)) not active)

-- one exposure more
made_more : (schema : SchemaParts) (old now : Proving) (number : ℕ) (fact : Ground) → MadeExposures schema old now → CanFire schema old number fact → MadeExposures schema old (with_exposure now number fact)
made_more schema old now number fact made can =
    let one : Exposed = record { method = number; fact = fact } in
    record {
      more = made.more ++ one ∷ [];
      log = firings_on now.entries (record { firing = Expose number fact; before = sizes_of now.constants now.end } ∷ [])
          ∙ ap (λ (l : List Firing). l ++ Expose number fact ∷ []) made.log
          ∙ append_assoc (log_of old) (map exposure_of made.more) (Expose number fact ∷ [])
          ∙ ap (λ (l : List Firing). log_of old ++ l) (sym (map-append exposure_of made.more (one ∷ [])));
      exposed = ap (λ (l : List Exposed). l ++ one ∷ []) made.exposed ∙ append_assoc old.exposed made.more (one ∷ []);
      active = λ other among. ⊎_elim (λ h. made.active other h) (λ same. subst (λ (o : Exposed). CanFire schema old o.method o.fact) same can) (Contains-push_cases made.more one other among);
      base = made.base;
      next = made.next;
      constants = made.constants;
      start = made.start;
    }

-- an exposure of the list was active
pub listed_can : (schema : SchemaParts) (old : Proving) (found : List Firing) (firing : Firing) (number : ℕ) (fact : Ground) → AreExposures schema old old.end.base found → Contains found firing → firing ≡ Expose number fact → CanFire schema old number fact
listed_can schema old found firing number fact are among f =
    let (number', fact', f', of_base, can) = are.each firing among in
    let same_number : number' ≡ number = number_is number' number fact' fact (sym f' ∙ f) in
    let same_fact : fact' ≡ fact = fact_is number' number fact' fact (sym f' ∙ f) in
    subst (λ n. CanFire schema old n fact) same_number (subst (CanFire schema old number') same_fact can)

pub made_may : (schema : SchemaParts) (old now new : Proving) (found : List Firing) (firing : Firing) → AreExposures schema old old.end.base found → Contains found firing → MadeExposures schema old now → MayExpose firing now new → MadeExposures schema old new
made_may schema old now new found firing are among made (inl same) = subst (MadeExposures schema old) (sym same) made
made_may schema old now new found firing are among made (inr (number, fact, f, e)) =
    subst (MadeExposures schema old) (sym e) (made_more schema old now number fact made (listed_can schema old found firing number fact are among f))

pub exposing_more : (schema : SchemaParts) (old now new : Proving) (found passed : List Firing) (firing : Firing) (budget : ℕ) → AreExposures schema old old.end.base found → Contains found firing → IsExposing schema old now passed budget
    → IsProofOf schema new → IsOrdered schema new → MayExpose firing now new → length new.entries ≤ max (length now.entries) budget
    → ((number : ℕ) (fact : Ground) → firing ≡ Expose number fact → Contains new.end.exposed fact)
    → IsExposing schema old new (passed ++ firing ∷ []) budget
exposing_more schema old now new found passed firing budget are among e is ordered may room shown = record {
  is = is;
  ordered = ordered;
  made = made_may schema old now new found firing are among e.made may;
  part = part may;
  shown = λ number fact c. ⊎_elim (λ h. kept may fact (e.shown number fact h)) (λ same. shown number fact same) (Contains-push_cases passed firing (Expose number fact) c);
  room = let r = e.room in omega arith;
}
  where
    part : MayExpose firing now new → last_part 0 (log_of new) ≤ 1
    part (inl same) = subst (λ (p : Proving). last_part 0 (log_of p) ≤ 1) (sym same) e.part
    part (inr (number, fact, f, made)) = subst (λ (p : Proving). last_part 0 (log_of p) ≤ 1) (sym made)
        (rw (firings_on now.entries (record { firing = Expose number fact; before = sizes_of now.constants now.end } ∷ []), last_part_on 0 (log_of now) (Expose number fact ∷ [])) (omega arith))

    kept : MayExpose firing now new → (fact : Ground) → Contains now.end.exposed fact → Contains new.end.exposed fact
    kept (inl same) fact c = subst (λ (p : Proving). Contains p.end.exposed fact) (sym same) c
    kept (inr (number, other, f, made)) fact c = subst (λ (p : Proving). Contains p.end.exposed fact) (sym made) (Contains-append_left now.end.exposed (other ∷ []) fact c)

-- what the exposures of a round leave
pub exposing_done : (schema : SchemaParts) (old now : Proving) (found : List Firing) (budget : ℕ) → IsBaseQuiet schema old.end → SomeExposure schema old → AreExposures schema old old.end.base found → IsExposing schema old now found budget → IsDone schema old now
exposing_done schema old now found budget quiet (number, fact, (method, active)) are e = record {
  base = λ (trigger, (rule, first)). absurd (quiet trigger rule first.active);
  exposures = λ still number fact can can'. let (its, found') = can in let (other, after) = can' in after.new (e.shown number fact (are.all number fact found'.of_base can));
  copy = λ still bare. absurd (bare number fact method active);
}

pub made_round : (schema : SchemaParts) (old new : Proving) → MadeExposures schema old new → IsOneRound old new
made_round schema old new made = record {
  part = 1;
  more = map exposure_of made.more;
  log = made.log;
  of_part = λ firing among. let (one, in_more, e) = contains_mapped exposure_of made.more firing among in subst (λ f. part_of f ≡ 1) e refl;
  constants = made.constants;
  start = made.start;
}

pub some_listed : (schema : SchemaParts) (proof : Proving) (found : List Firing) → AreExposures schema proof proof.end.base found → 0 < length found → SomeExposure schema proof
some_listed schema proof [] are l = absurd (omega arith)
some_listed schema proof (firing ∷ found) are l = let (number, fact, e, among, can) = are.each firing (contains_here firing found) in (number, fact, can)

-- what a round of one kind leaves
pub base_done : (schema : SchemaParts) (old new : Proving) → SomeActive schema.rules (base_state old.end) → IsBaseQuiet schema new.end → IsDone schema old new
base_done schema old new (trigger, (rule, first)) quiet = record {
  base = λ some. quiet;
  exposures = λ before number fact can can'. absurd (before trigger rule first.active);
  copy = λ before bare. absurd (before trigger rule first.active);
}

pub copy_done : (schema : SchemaParts) (old new : Proving) → IsBaseQuiet schema old.end → NoExposure schema old.constants old.end → IsQuiet schema.rules (copy_state new.end) → IsDone schema old new
copy_done schema old new quiet bare settled = record {
  base = λ (trigger, (rule, first)). absurd (quiet trigger rule first.active);
  exposures = λ before number fact can can'. let (method, active) = can in bare number fact method active;
  copy = λ before none. settled;
}

-- how a part of one kind ends, where it is not spent
pub not_spent : {P : Type 0} (ended : Round) → (ended ≡ Spent → ⊥) → (ended ≡ Quiet → P) → (ended ≡ Done → ⊥) → P
not_spent Quiet not quiet done = quiet refl
not_spent Done not quiet done = absurd (done refl)
not_spent Spent not quiet done = absurd (not refl)

-- what holds whatever a call answers
pub on_ok : {T E P : Type 0} (answer : Result T E) → P → OnOk answer P
on_ok (Ok value) p = p
on_ok (Err fault) p = tt
