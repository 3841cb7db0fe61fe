-- What is kept of the open facts, from exposure to exposure and back.
use Rattle.std.proofs.Common.{◌≡◌, ℕ, ◌+◌, ◌<◌, ◌≤◌, List, [], ◌∷◌, ◌++◌, length, take, drop, Some, None, Bool, IsTrue, refl, sym, ap, ◌∙◌, subst, ⊎_elim, arith}
use Rattle.std.specs.Prelude.{◌⊎◌, Contains, slice_get, Option, IfSome, Box}
use Rattle.std.proofs.lemmas.Option.{slice_get_within}
use Rattle.std.proofs.lemmas.List.{take_all, take-take, take-append-le, drop-append-le, length-take-le, length_push, length-append}
use Rattle.std.proofs.lemmas.List.Elements.{Contains-append_left}
use Rattle.lists.proofs.Places.{got_none}
use Rattle.meaning.specs.declared.types.Ground.{Ground}
use Rattle.accessible_copy.specs.declared.entry.Exposed.{Exposed}
use Rattle.accessible_copy.specs.declared.open_facts.Reached.{Reached}
use Rattle.accessible_copy.specs.declared.open_facts.OpenFacts.{OpenFacts}
use Rattle.accessible_copy.specs.Known.{known_values, facts_of}
use Rattle.accessible_copy.specs.Proving.{Proving}
use Rattle.accessible_copy.specs.Exposing.{with_exposure}
use Rattle.accessible_copy.specs.Ways.{IsWayIndex}
use Rattle.accessible_copy.specs.OpenFacts.{AreHolders, IsOpen, HasOpen, AreOpenFacts}
use Rattle.accessible_copy.proofs.Lists.{take_front, got_front, got_cases, known_push}
use Rattle.accessible_copy.proofs.ExposureEntries.{facts_push}

-- nothing is exposed yet
pub kept_from_none : (facts : List Ground) (constants : List (List ℕ)) (exposed : List Exposed) (kept : OpenFacts) → exposed ≡ [] → kept.before.items ≡ [] → kept.passed ≡ 0
    → IsWayIndex kept.ways.items kept.index → AreHolders facts kept.holders → HasOpen kept.ways.items facts constants exposed kept.listed.items → AreOpenFacts facts constants exposed kept
kept_from_none facts constants exposed kept none bare start index holders now = record {
  index = index;
  holders = holders;
  now = rw start now;
  low = rw start (omega arith);
  count = ap length bare ∙ sym (ap length none);
  cut = λ e at got. absurd (never e at got);
  under = λ e at got. absurd (never e at got);
  passed = λ e at got. absurd (never e at got);
  nested = λ d e first second got other l. absurd (never d first got);
}
  where
    never : (e : ℕ) (at : Reached) → slice_get kept.before.items e ≡ Some at → ⊥
    never e at got = let within = slice_get_within kept.before.items e at got in let long : length kept.before.items ≡ 0 = ap length bare in omega arith

-- one exposure more, with the facts that it opens
module _ (facts : List Ground) (constants : List (List ℕ)) (exposed : List Exposed) (one : Exposed) (old : OpenFacts) (more : List ℕ) (is : AreOpenFacts facts constants exposed old) where
  abbrev Now : List ℕ → Type 0
  Now list = HasOpen old.ways.items facts constants (exposed ++ one ∷ []) list

  known_front : take (length (known_values constants (facts_of exposed))) (known_values constants (facts_of (exposed ++ one ∷ []))) ≡ known_values constants (facts_of exposed)
  known_front = rw (facts_push exposed one, known_push constants (facts_of exposed) one.fact) (take_front (known_values constants (facts_of exposed)) one.fact.vals)

  -- what was open before is listed, and so is what is new
  pub listed_more : ((n : ℕ) → IsOpen old.ways.items facts (known_values constants (facts_of (exposed ++ one ∷ []))) (facts_of (exposed ++ one ∷ [])) n
      → IsOpen old.ways.items facts (take (length (known_values constants (facts_of exposed))) (known_values constants (facts_of (exposed ++ one ∷ [])))) (facts_of (exposed ++ one ∷ [])) n ⊎ Contains (drop old.passed old.listed.items ++ more) n)
      → Now (drop old.passed (old.listed.items ++ more))
  listed_more found n can_be = subst (λ l. Contains l n) (sym (drop-append-le old.passed old.listed.items more is.low))
      (⊎_elim (λ h. Contains-append_left (drop old.passed old.listed.items) more n (is.now n (earlier (subst (λ values. IsOpen old.ways.items facts values (facts_of (exposed ++ one ∷ [])) n) known_front h)))) (λ h. h) (found n can_be))
    where
      earlier : IsOpen old.ways.items facts (known_values constants (facts_of exposed)) (facts_of (exposed ++ one ∷ [])) n → IsOpen old.ways.items facts (known_values constants (facts_of exposed)) (facts_of exposed) n
      earlier (fact, got, not, can) = (fact, got, (λ c. not (subst (λ l. Contains l fact) (sym (facts_push exposed one)) (Contains-append_left (facts_of exposed) (one.fact ∷ []) fact c))), can)

pub passed_low : (old : OpenFacts) (more listed : List ℕ) → listed ≡ old.listed.items ++ more → old.passed ≤ length old.listed.items → old.passed ≤ length listed
passed_low old more listed e low = let long : length listed ≡ length old.listed.items + length more = ap length e ∙ length-append old.listed.items more in omega arith

module _ (facts : List Ground) (constants : List (List ℕ)) (exposed : List Exposed) (one : Exposed) (old new : OpenFacts) (more : List ℕ) (is : AreOpenFacts facts constants exposed old)
    (ways : new.ways.items ≡ old.ways.items) (index : new.index ≡ old.index) (holders : new.holders ≡ old.holders) (listed : new.listed.items ≡ old.listed.items ++ more)
    (before : new.before.items ≡ old.before.items ++ record { listed = length old.listed.items; passed = old.passed } ∷ []) where
  abbrev last : Reached
  last = record { listed = length old.listed.items; passed = old.passed }

  cut_old : (e : ℕ) (at : Reached) → slice_get old.before.items e ≡ Some at → HasOpen old.ways.items facts constants (take e (exposed ++ one ∷ [])) (drop at.passed (take at.listed (old.listed.items ++ more)))
  cut_old e at got =
      let within = slice_get_within old.before.items e at got in
      let count = is.count in
      let short : e ≤ length exposed = omega arith in
      rw (take-append-le e exposed (one ∷ []) short, take-append-le at.listed old.listed.items more (is.under e at got)) (is.cut e at got)

  cut_last : HasOpen old.ways.items facts constants (take (length old.before.items) (exposed ++ one ∷ [])) (drop old.passed (take (length old.listed.items) (old.listed.items ++ more)))
  cut_last = rw (is.count, take_front exposed (one ∷ []), take_front old.listed.items more) is.now

  pub kept_after : new.passed ≤ length new.listed.items → HasOpen old.ways.items facts constants (exposed ++ one ∷ []) (drop new.passed new.listed.items) → AreOpenFacts facts constants (exposed ++ one ∷ []) new
  kept_after low now = record {
    index = rw (ways, index) is.index;
    holders = rw holders is.holders;
    now = rw ways now;
    low = low;
    count = ap length before ∙ length_push old.before.items last ∙ ap (λ n. n + 1) is.count ∙ sym (length_push exposed one);
    cut = λ e at got. rw (ways, listed) (⊎_elim (λ h. cut_old e at h)
        (λ (here, same). subst (λ (r : Reached). HasOpen old.ways.items facts constants (take e (exposed ++ one ∷ [])) (drop r.passed (take r.listed (old.listed.items ++ more)))) same
        (subst (λ k. HasOpen old.ways.items facts constants (take k (exposed ++ one ∷ [])) (drop old.passed (take (length old.listed.items) (old.listed.items ++ more)))) (sym here) cut_last))
        (among e at got));
    under = λ e at got. let long : length new.listed.items ≡ length old.listed.items + length more = ap length listed ∙ length-append old.listed.items more in
        let small = small e at got in omega arith;
    passed = λ e at got. ⊎_elim (λ h. is.passed e at h) (λ (here, same). subst (λ (r : Reached). r.passed ≤ r.listed) same is.low) (among e at got);
    nested = λ d e first second got other l. ⊎_elim
        (λ h. ⊎_elim (λ k. is.nested d e first second h k l) (λ (here, same). subst (λ (r : Reached). first.listed ≤ r.listed) same (is.under d first h)) (among e second other))
        (λ (here, same). ⊎_elim
        (λ k. let within = slice_get_within old.before.items e second k in absurd (omega arith))
        (λ (there, equal). subst (λ (r : Reached). r.listed ≤ second.listed) same (subst (λ (r : Reached). length old.listed.items ≤ r.listed) equal (omega arith))) (among e second other))
        (among d first got);
  }
    where
      among : (e : ℕ) (at : Reached) → slice_get new.before.items e ≡ Some at → (slice_get old.before.items e ≡ Some at) ⊎ ((e ≡ length old.before.items) × (last ≡ at))
      among e at got = got_cases old.before.items last e at (subst (λ (l : List Reached). slice_get l e ≡ Some at) before got)

      small : (e : ℕ) (at : Reached) → slice_get new.before.items e ≡ Some at → at.listed ≤ length old.listed.items
      small e at got = ⊎_elim (λ h. is.under e at h) (λ (here, same). subst (λ (r : Reached). r.listed ≤ length old.listed.items) same (omega arith)) (among e at got)

-- back to an exposure
module _ (facts : List Ground) (constants : List (List ℕ)) (exposed : List Exposed) (old new : OpenFacts) (count : ℕ) (is : AreOpenFacts facts constants exposed old) where
  pub kept_whole : slice_get old.before.items count ≡ None → AreOpenFacts facts constants (take count exposed) old
  kept_whole none =
      let beyond = got_none old.before.items count none in
      let same = is.count in
      subst (λ l. AreOpenFacts facts constants l old) (sym (take_all count exposed (omega arith))) is

  pub kept_front : (reached : Reached) → slice_get old.before.items count ≡ Some reached → new.ways.items ≡ old.ways.items → new.index ≡ old.index → new.holders ≡ old.holders
      → new.listed.items ≡ take reached.listed old.listed.items → new.passed ≡ reached.passed → new.before.items ≡ take count old.before.items → AreOpenFacts facts constants (take count exposed) new
  kept_front reached at ways index holders listed passed before = record {
    index = rw (ways, index) is.index;
    holders = rw holders is.holders;
    now = rw (ways, listed, passed) (is.cut count reached at);
    low = rw (listed, passed, whole) (is.passed count reached at);
    count = ap length before ∙ length-take-le count old.before.items (let low = below.0 in omega arith) ∙ sym (length-take-le count exposed below.1);
    cut = λ e other got.
        let (low, h) = before_got e other got in
        rw (ways, listed, take-take e count exposed (omega arith), take-take other.listed reached.listed old.listed.items (is.nested e count other reached h at (omega arith))) (is.cut e other h);
    under = λ e other got. let (low, h) = before_got e other got in rw (listed, whole) (is.nested e count other reached h at (omega arith));
    passed = λ e other got. let (low, h) = before_got e other got in is.passed e other h;
    nested = λ d e first second got other l. let (low, h) = before_got d first got in let (short, k) = before_got e second other in is.nested d e first second h k l;
  }
    where
      below : (count < length old.before.items) × (count ≤ length exposed)
      below = let within = slice_get_within old.before.items count reached at in let same = is.count in (within, omega arith)

      whole : length (take reached.listed old.listed.items) ≡ reached.listed
      whole = length-take-le reached.listed old.listed.items (is.under count reached at)

      before_got : (e : ℕ) (other : Reached) → slice_get new.before.items e ≡ Some other → (e < count) × (slice_get old.before.items e ≡ Some other)
      before_got e other got = got_front count old.before.items e other (subst (λ (l : List Reached). slice_get l e ≡ Some other) before got)

-- what is asked of what is kept where an exposure was made
pub kept_before : {A : Type 0} (kept : Option (Box OpenFacts A)) (old new : Proving) (method : ℕ) (fact : Ground) (width : ℕ) → new ≡ with_exposure old method fact → width ≡ length (known_values old.constants (facts_of old.exposed))
    → IfSome kept (λ one. AreOpenFacts old.end.base old.constants old.exposed one.value)
    → IfSome kept (λ k. (exposed : List Exposed) × (one : Exposed) × (new.exposed ≡ exposed ++ one ∷ []) × (width ≡ length (known_values new.constants (facts_of exposed))) × AreOpenFacts new.end.base new.constants exposed k.value)
kept_before None old new method fact width e wide is = tt
kept_before (Some kept) old new method fact width e wide is = rw e (old.exposed, record { method = method; fact = fact }, refl, wide, is)

-- where the base facts stay, so does what is kept for them
pub kept_staying : {A : Type 0} (kept : Option (Box OpenFacts A)) (stays : Bool) (old new : List Ground) (constants : List (List ℕ)) (exposed : List Exposed) → IfSome kept (λ one. IsTrue stays) → (IsTrue stays → new ≡ old)
    → IfSome kept (λ one. AreOpenFacts old constants exposed one.value) → IfSome kept (λ one. AreOpenFacts new constants exposed one.value)
kept_staying None stays old new constants exposed so same is = tt
kept_staying (Some kept) stays old new constants exposed so same is = rw (same so) is
