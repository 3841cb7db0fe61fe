-- The pass back over the copy firings: with the wanted facts the goal facts can be made.
use Rattle.std.proofs.Common.{◌≡◌, ℕ, zero, suc, ◌+◌, ◌-◌, ◌<◌, ◌≤◌, List, [], ◌∷◌, ◌++◌, length, take, drop, Some, refl, sym, ap, ◌∙◌, subst, ⊎_elim, arith, map}
use Rattle.std.specs.Prelude.{Contains, slice_get}
use Rattle.std.proofs.lemmas.Bool.{cases_lt}
use Rattle.std.proofs.lemmas.List.{append-nil, take_all, take-take, length-take, length-append}
use Rattle.std.proofs.lemmas.Option.{slice_get_within}
use Rattle.lists.proofs.Members.{some_injective, contains_here, contains_there, contains_got, contains_map, got_push, map_same}
use Rattle.lists.proofs.Places.{take_got, got_member}
use Rattle.meaning.specs.declared.types.SchemaParts.{SchemaParts}
use Rattle.meaning.specs.declared.types.Atom.{Atom}
use Rattle.meaning.specs.declared.types.Rule.{Rule}
use Rattle.meaning.specs.declared.types.Val.TheVariants.{Const, Label}
use Rattle.meaning.specs.declared.types.Ground.{Ground}
use Rattle.meaning.specs.declared.types.Trigger.{Trigger}
use Rattle.meaning.specs.declared.types.Firing.{Firing}
use Rattle.meaning.specs.declared.types.Firing.TheVariants.{Copy}
use Rattle.meaning.specs.Values.{Value}
use Rattle.meaning.specs.Added.{with_facts}
use Rattle.homomorphism.specs.Bindings.{at}
use Rattle.meaning.specs.Triggers.{State, bound, IsTrigger, assigned, ground, fired}
use Rattle.meaning.specs.Runs.{Proof, copy_state, Fires, part_of, last_part}
use Rattle.meaning_laws.proofs.Added.{added_left, added_right, added_cases, added_front, with_old, with_new}
use Rattle.meaning_laws.proofs.Deciding.{dec_contains, same_values}
use Rattle.meaning_laws.proofs.Carrying.{occurs_below}
use Rattle.meaning_laws.proofs.Joined.{joined_below}
use Rattle.accessible_copy.specs.declared.entry.Sizes.{Sizes}
use Rattle.accessible_copy.specs.declared.entry.Entry.{Entry}
use Rattle.accessible_copy.specs.Proving.{Proving, IsWritten, IsProofOf, exposed_in, exposed_by, firings_of, sizes_of}
use Rattle.accessible_copy.proofs.Writing.{exposed_on, firings_on}
use Rattle.plan_extract.specs.Resting.{Makes}
use Rattle.plan_extract.specs.Resting.RestsOnFact.{atom as rests_atom, body as rests_body}
use Rattle.plan_extract.specs.Passes.{Serves, IsBack, HasRule}

-- ---- one firing

module _ (rules : List Rule) (state : State) (trigger : Trigger) (rule : Rule) (is : IsTrigger rules state trigger rule) (goals : List Ground) where
  abbrev HeadFacts : List Ground
  HeadFacts = map (ground (assigned trigger)) rule.head

  -- a firing is left out, since it adds no wanted fact
  pub serves_skip : (wanted : List Ground) → ((fact : Ground) → Contains wanted fact → Contains (fired state trigger rule).facts fact → Contains state.facts fact) →
      Serves rules (fired state trigger rule).next (fired state trigger rule).facts wanted goals → Serves rules state.next state.facts wanted goals
  serves_skip wanted none serves small low has =
      let up : state.next ≤ trigger.fresh = is.fresh in
      serves small (omega arith) (λ fact want there. has fact want (none fact want there))

  -- a firing is kept, and its body is wanted
  pub serves_keep : (wanted more : List Ground) → ((fact : Ground) → Contains wanted fact → Contains more fact) → ((fact : Ground) → Contains (map (ground (assigned trigger)) rule.body) fact → Contains more fact) →
      Serves rules (fired state trigger rule).next (fired state trigger rule).facts wanted goals → Serves rules state.next state.facts more goals
  serves_keep wanted more within body serves small low has =
      let up : state.next ≤ trigger.fresh = is.fresh in
      let (kept, last, run, leaves) = serves (fired small trigger rule) (omega arith)
      (λ fact want there. ⊎_elim (λ old. added_left small.facts HeadFacts fact (has fact (within fact want) old)) (λ new. added_right small.facts HeadFacts fact new) (added_cases state.facts HeadFacts fact there)) in
      let its : IsTrigger rules small trigger rule = record { numbered = is.numbered; width = is.width; fresh = omega arith; body = λ atom among. let fact = ground (assigned trigger) atom in has fact (body fact (contains_map (ground (assigned trigger)) rule.body atom among)) (is.body atom among) } in
      (trigger ∷ kept, last, (rule, its, run), leaves)

-- the body's facts are those at the trigger's values
pub body_at : (trigger : Trigger) (rule : Rule) → length trigger.values ≡ bound rule.body → map (ground (at trigger.values)) rule.body ≡ map (ground (assigned trigger)) rule.body
body_at trigger rule width = map_same (ground (at trigger.values)) (ground (assigned trigger)) rule.body one
  where
    one : (atom : Atom) → Contains rule.body atom → ground (at trigger.values) atom ≡ ground (assigned trigger) atom
    one atom among =
        let same = same_values Const (at trigger.values) (assigned trigger) atom.terms
        (λ x has. let low = occurs_below rule.body x (atom, among, has) in sym (joined_below (length trigger.values) (at trigger.values) (λ i. Label (trigger.fresh + i)) x (omega arith))) in
        (λ i. record { rel = atom.rel; vals = same i })

-- ---- places in lists

pub got_take : {X : Type 0} (xs : List X) (n k : ℕ) (x : X) → slice_get (take n xs) k ≡ Some x → (k < n) × (slice_get xs k ≡ Some x)
got_take [] zero k x e = absurd (cc)
got_take [] (suc n) k x e = absurd (cc)
got_take (y ∷ xs) zero k x e = absurd (cc)
got_take (y ∷ xs) (suc n) zero x e = (omega arith, e)
got_take (y ∷ xs) (suc n) (suc k) x e = let (l, at) = got_take xs n k x e in (omega arith, at)

pub take_has : {X : Type 0} (xs : List X) (n k : ℕ) (x : X) → k < n → slice_get xs k ≡ Some x → Contains (take n xs) x
take_has [] n k x l e = absurd (cc)
take_has (y ∷ xs) zero k x l e = absurd (omega arith)
take_has (y ∷ xs) (suc n) zero x l e = subst (λ z. Contains (y ∷ take n xs) z) (some_injective y x e) (contains_here y (take n xs))
take_has (y ∷ xs) (suc n) (suc k) x l e = contains_there y (take n xs) x (take_has xs n k x (omega arith) e)

pub drop_has : {X : Type 0} (xs : List X) (n k : ℕ) (x : X) → n ≤ k → slice_get xs k ≡ Some x → Contains (drop n xs) x
drop_has [] n k x l e = absurd (cc)
drop_has (y ∷ xs) zero k x l e = contains_got (y ∷ xs) k x e
drop_has (y ∷ xs) (suc n) zero x l e = absurd (omega arith)
drop_has (y ∷ xs) (suc n) (suc k) x l e = drop_has xs n k x (omega arith) e

pub got_took : {X : Type 0} (xs : List X) (n k : ℕ) (x : X) → k < n → slice_get xs k ≡ Some x → slice_get (take n xs) k ≡ Some x
got_took [] n k x l e = absurd (cc)
got_took (y ∷ xs) zero k x l e = absurd (omega arith)
got_took (y ∷ xs) (suc n) zero x l e = e
got_took (y ∷ xs) (suc n) (suc k) x l e = got_took xs n k x (omega arith) e

-- facts that others were added to keep their places
front_got : (facts news : List Ground) (k : ℕ) (fact : Ground) → k < length facts → slice_get (with_facts facts news) k ≡ Some fact → slice_get facts k ≡ Some fact
front_got facts news k fact l e = subst (λ fs. slice_get fs k ≡ Some fact) (added_front facts news) (got_took (with_facts facts news) (length facts) k fact l e)

-- what stands behind the facts that others were added to is one of those
pub added_behind : (facts news : List Ground) (k : ℕ) (fact : Ground) → length facts ≤ k → slice_get (with_facts facts news) k ≡ Some fact → Contains news fact
added_behind facts [] k fact l e = let within = slice_get_within facts k fact e in absurd (omega arith)
added_behind facts (first ∷ news) k fact l e =
    elim (dec_contains facts first) [
      | yes old ↦ contains_there first news fact (added_behind facts news k fact l (subst (λ fs. slice_get (with_facts fs news) k ≡ Some fact) (with_old facts first old) e))
      | no new ↦
          let more : slice_get (with_facts (facts ++ first ∷ []) news) k ≡ Some fact = subst (λ fs. slice_get (with_facts fs news) k ≡ Some fact) (with_new facts first new) e in
          let long = length-append facts (first ∷ []) in
          pushed (λ low. added_behind (facts ++ first ∷ []) news k fact (omega arith) more) more
    ]
  where
    pushed : (length facts + 1 ≤ k → Contains news fact) → slice_get (with_facts (facts ++ first ∷ []) news) k ≡ Some fact → Contains (first ∷ news) fact
    pushed on more =
        ⊎_elim
        (λ here. let at : k ≡ length facts = omega arith in
        let low : k < length (facts ++ first ∷ []) = omega (arith, length-append facts (first ∷ [])) in
        let front : slice_get (facts ++ first ∷ []) k ≡ Some fact = front_got (facts ++ first ∷ []) news k fact low more in
        let is : slice_get (facts ++ first ∷ []) k ≡ Some first = subst (λ i. slice_get (facts ++ first ∷ []) i ≡ Some first) (sym at) (got_push facts first) in
        subst (λ z. Contains (first ∷ news) z) (some_injective first fact (sym is ∙ front)) (contains_here first news))
        (λ high. contains_there first news fact (on high))
        (cases_lt k (length facts + 1))

-- ---- one entry back

record Stepped (schema : SchemaParts) (constants : List Value) (part : ℕ) (proof : Proof) (entries : List Entry) (n : ℕ) (entry : Entry) (state : Proof) : Type 0 where
  middle : Proof
  front : IsWritten schema constants part proof (take n entries) middle
  sizes : entry.before ≡ sizes_of constants middle
  fires : Fires schema constants middle entry.firing state

stepped : (schema : SchemaParts) (constants : List Value) (part : ℕ) (proof : Proof) (entries : List Entry) (n : ℕ) (entry : Entry) (state : Proof) → slice_get entries n ≡ Some entry → IsWritten schema constants part proof (take (suc n) entries) state →
    Stepped schema constants part proof entries n entry state
stepped schema constants part proof [] n entry state got written = absurd (cc)
stepped schema constants part proof (first ∷ entries) zero entry state got (order, sizes, (next, fires, e)) =
    let is : first ≡ entry = some_injective first entry got in
    record {
      middle = proof;
      front = refl;
      sizes = subst (λ (x : Entry). x.before ≡ sizes_of constants proof) is sizes;
      fires = subst (λ (x : Entry). Fires schema constants proof x.firing state) is (subst (λ p. Fires schema constants proof first.firing p) (sym e) fires);
    }
stepped schema constants part proof (first ∷ entries) (suc n) entry state got (order, sizes, (next, fires, more)) =
    let rest = stepped schema constants (part_of first.firing) next entries n entry state got more in
    record { middle = rest.middle; front = (order, sizes, (next, fires, rest.front)); sizes = rest.sizes; fires = rest.fires }

-- the proof before a copy firing
record Before (schema : SchemaParts) (proof : Proving) (left : ℕ) (entry : Entry) (trigger : Trigger) (state : Proof) : Type 0 where
  middle : Proof
  front : IsWritten schema proof.constants 0 proof.start (take (left - 1) proof.entries) middle
  long : entry.before.copy ≡ length middle.copy
  rule : Rule
  is_trigger : IsTrigger schema.rules (copy_state middle) trigger rule
  copy : state.copy ≡ (fired (copy_state middle) trigger rule).facts
  next : state.next ≡ (fired (copy_state middle) trigger rule).next
  base : middle.base ≡ state.base

before : (schema : SchemaParts) (proof : Proving) (left : ℕ) (entry : Entry) (trigger : Trigger) (state : Proof) → 0 < left → slice_get proof.entries (left - 1) ≡ Some entry → entry.firing ≡ Copy trigger →
    IsWritten schema proof.constants 0 proof.start (take left proof.entries) state → Before schema proof left entry trigger state
before schema proof left entry trigger state low got copy written =
    let one : left ≡ suc (left - 1) = omega arith in
    let its = stepped schema proof.constants 0 proof.start proof.entries (left - 1) entry state got (subst (λ n. IsWritten schema proof.constants 0 proof.start (take n proof.entries) state) one written) in
    by its (subst (λ firing. Fires schema proof.constants its.middle firing state) copy its.fires)
  where
    by : (its : Stepped schema proof.constants 0 proof.start proof.entries (left - 1) entry state) → Fires schema proof.constants its.middle (Copy trigger) state → Before schema proof left entry trigger state
    by its (rule, first, quiet, e) = record {
      middle = its.middle;
      front = its.front;
      long = ap (λ (s : Sizes). s.copy) its.sizes;
      rule = rule;
      is_trigger = first.active.trigger_is;
      copy = ap (λ (p : Proof). p.copy) e;
      next = ap (λ (p : Proof). p.next) e;
      base = sym (ap (λ (p : Proof). p.base) e);
    }

module _ (schema : SchemaParts) (proof : Proving) (goals : List Ground) (left after : ℕ) (wanted : List Ground) (back : IsBack schema proof goals left after wanted)
    (entry : Entry) (trigger : Trigger) (low : 0 < left) (got : slice_get proof.entries (left - 1) ≡ Some entry) (copies : entry.firing ≡ Copy trigger) where
  its : Before schema proof left entry trigger back.state
  its = before schema proof left entry trigger back.state low got copies back.front

  -- the trigger is one of a rule
  pub back_rule : (rule : Rule) × HasRule schema.rules trigger rule
  back_rule = (its.rule, record { numbered = its.is_trigger.numbered; width = its.is_trigger.width })

  heads : List Ground
  heads = map (ground (assigned trigger)) its.rule.head

  shorter : entry.before.copy ≤ after
  shorter =
      let front : take (length its.middle.copy) (with_facts its.middle.copy (map (ground (assigned trigger)) its.rule.head)) ≡ its.middle.copy = added_front its.middle.copy (map (ground (assigned trigger)) its.rule.head) in
      let m = length-take (length its.middle.copy) (with_facts its.middle.copy (map (ground (assigned trigger)) its.rule.head)) in
      let f = ap length front in
      let s = ap length its.copy in
      let a = back.long in
      let b = its.long in
      omega arith

  front_copy : its.middle.copy ≡ take entry.before.copy proof.end.copy
  front_copy =
      sym (added_front its.middle.copy (map (ground (assigned trigger)) its.rule.head))
      ∙ ap (λ facts. take (length its.middle.copy) facts) (sym its.copy)
      ∙ ap (λ n. take n back.state.copy) (sym its.long)
      ∙ ap (λ facts. take entry.before.copy facts) back.copy
      ∙ take-take entry.before.copy after proof.end.copy shorter

  same_exposed : exposed_in (take (left - 1) proof.entries) ≡ exposed_in proof.entries
  same_exposed =
      let one : left ≡ (left - 1) + 1 = omega arith in
      let split : take left proof.entries ≡ take (left - 1) proof.entries ++ entry ∷ [] = ap (λ n. take n proof.entries) one ∙ take_got proof.entries (left - 1) entry got in
      sym (append-nil (exposed_in (take (left - 1) proof.entries)))
      ∙ sym (ap (λ firing. exposed_in (take (left - 1) proof.entries) ++ (exposed_by firing ++ [])) copies)
      ∙ sym (exposed_on (take (left - 1) proof.entries) (entry ∷ []))
      ∙ sym (ap exposed_in split)
      ∙ back.exposed

  served : Serves schema.rules (fired (copy_state its.middle) trigger its.rule).next (fired (copy_state its.middle) trigger its.rule).facts wanted goals
  served = subst (λ facts. Serves schema.rules (fired (copy_state its.middle) trigger its.rule).next facts wanted goals) its.copy (subst (λ n. Serves schema.rules n back.state.copy wanted goals) its.next back.serves)

  fewer : left - 1 ≤ length proof.entries
  fewer = let l = back.within in omega arith

  -- a firing that adds no wanted fact
  pub back_skip : ((number : ℕ) (fact : Ground) → entry.before.copy ≤ number → number < after → slice_get proof.end.copy number ≡ Some fact → Contains wanted fact → ⊥) → IsBack schema proof goals (left - 1) entry.before.copy wanted
  back_skip none = record {
    within = fewer;
    state = its.middle;
    front = its.front;
    long = its.long;
    copy = front_copy;
    base = its.base ∙ back.base;
    exposed = same_exposed;
    serves = serves_skip schema.rules (copy_state its.middle) trigger its.rule its.is_trigger goals wanted old served;
    rests = back.rests;
  }
    where
      old : (fact : Ground) → Contains wanted fact → Contains (fired (copy_state its.middle) trigger its.rule).facts fact → Contains its.middle.copy fact
      old fact want there =
          let (k, at) = got_member (take after proof.end.copy) fact (subst (λ facts. Contains facts fact) (sym its.copy ∙ back.copy) there) in
          let (below, is) = got_take proof.end.copy after k fact at in
          ⊎_elim (λ early. subst (λ facts. Contains facts fact) (sym front_copy) (take_has proof.end.copy entry.before.copy k fact early is)) (λ late. absurd (none k fact late below is want)) (cases_lt k entry.before.copy)

  -- a firing that adds one
  pub back_keep : (rule : Rule) → slice_get schema.rules trigger.rule ≡ Some rule → ((number : ℕ) × (fact : Ground) × (entry.before.copy ≤ number) × (number < after) × (slice_get proof.end.copy number ≡ Some fact) × Contains wanted fact) →
      IsBack schema proof goals (left - 1) entry.before.copy (with_facts wanted (map (ground (assigned trigger)) rule.body))
  back_keep rule named (number, made, high, below, at, want) = record {
    within = fewer;
    state = its.middle;
    front = its.front;
    long = its.long;
    copy = front_copy;
    base = its.base ∙ back.base;
    exposed = same_exposed;
    serves = serves_keep schema.rules (copy_state its.middle) trigger its.rule its.is_trigger goals wanted (with_facts wanted body) (λ fact c. added_left wanted body fact c)
        (λ fact c. added_right wanted body fact (subst (λ (r : Rule). Contains (map (ground (assigned trigger)) r.body) fact) same c)) served;
    rests = λ fact c. ⊎_elim (λ old. back.rests fact old) (λ new. rests_body trigger rule made fact (back.rests made want) makes new) (added_cases wanted body fact c);
  }
    where
      body : List Ground
      body = map (ground (assigned trigger)) rule.body

      same : its.rule ≡ rule
      same = some_injective its.rule rule (sym its.is_trigger.numbered ∙ named)

      of_head : Contains (map (ground (assigned trigger)) its.rule.head) made
      of_head =
          let there : slice_get (take after proof.end.copy) number ≡ Some made = got_took proof.end.copy after number made below at in
          let in_state : slice_get (with_facts its.middle.copy (map (ground (assigned trigger)) its.rule.head)) number ≡ Some made = subst (λ facts. slice_get facts number ≡ Some made) (sym back.copy ∙ its.copy) there in
          let l = its.long in
          added_behind its.middle.copy (map (ground (assigned trigger)) its.rule.head) number made (omega arith) in_state

      makes : Makes schema proof trigger rule made
      makes = record {
        before = entry.before;
        logged = subst (λ (e : Entry). Contains proof.entries e) (λ i. record { firing = copies i; before = entry.before }) (contains_got proof.entries (left - 1) entry got);
        numbered = named;
        of_head = subst (λ (r : Rule). Contains (map (ground (assigned trigger)) r.head) made) same of_head;
        new = drop_has proof.end.copy entry.before.copy number made high at;
      }

-- before the pass
pub back_start : (schema : SchemaParts) (proof : Proving) (goals : List Ground) (left after : ℕ) (wanted : List Ground) → IsProofOf schema proof → ((fact : Ground) → Contains goals fact → Contains proof.end.copy fact) →
    left ≡ length proof.entries → after ≡ length proof.end.copy → wanted ≡ with_facts [] goals → IsBack schema proof goals left after wanted
back_start schema proof goals left after wanted is there l a w = record {
  within = omega arith;
  state = proof.end;
  front = subst (λ entries. IsWritten schema proof.constants 0 proof.start entries proof.end) (sym whole) is.written;
  long = a;
  copy = sym (take_all after proof.end.copy (omega arith));
  base = refl;
  exposed = ap exposed_in whole;
  serves = λ small low has. ([], small, refl, λ fact among. has fact (subst (λ facts. Contains facts fact) (sym w) (added_right [] goals fact among)) (there fact among));
  rests = λ fact c. ⊎_elim (λ none. absurd (omega arith)) (λ among. rests_atom fact among) (added_cases [] goals fact (subst (λ facts. Contains facts fact) w c));
}
  where
    whole : take left proof.entries ≡ proof.entries
    whole = take_all left proof.entries (omega arith)

-- ---- where the pass ends

pub last_push : (part : ℕ) (log : List Firing) (firing : Firing) → last_part part (log ++ firing ∷ []) ≡ part_of firing
last_push part [] firing = refl
last_push part (other ∷ log) firing = last_push (part_of other) log firing

pub early_entry : (entries : List Entry) (left : ℕ) (entry : Entry) → 0 < left → slice_get entries (left - 1) ≡ Some entry → part_of entry.firing ≤ 1 → last_part 0 (firings_of (take left entries)) ≤ 1
early_entry entries left entry low got early =
    let one : left ≡ (left - 1) + 1 = omega arith in
    let split : take left entries ≡ take (left - 1) entries ++ entry ∷ [] = ap (λ n. take n entries) one ∙ take_got entries (left - 1) entry got in
    let log : firings_of (take left entries) ≡ firings_of (take (left - 1) entries) ++ entry.firing ∷ [] = ap firings_of split ∙ firings_on (take (left - 1) entries) (entry ∷ []) in
    let last : last_part 0 (firings_of (take left entries)) ≡ part_of entry.firing = ap (last_part 0) log ∙ last_push 0 (firings_of (take (left - 1) entries)) entry.firing in
    omega arith
