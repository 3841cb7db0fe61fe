-- Several steps of one source of a lane, and what a step does to each place.
use Rattle.std.proofs.Common.{◌≡◌, ◌≢◌, ◌+◌, ◌≤◌, ◌⊎◌, inl, inr, ℕ, zero, suc, Bool, true, false, cond, List, [], ◌∷◌, Option, None, Some, refl, sym, ◌∙◌, ap, subst, arith, nat_eq}
use Rattle.std.specs.Prelude.{slice_get, slice_set, IsSome, IsSomeAnd}
use Rattle.std.specs.Cmp.Lexicographic.{pointwise}
use Rattle.std.proofs.lemmas.Bool.{cases_eq}
use Rattle.std.proofs.lemmas.Slice.Eq.{bytes_eq-Decides}
use Rattle.lists.proofs.Members.{some_injective}
use Rattle.lists.proofs.Places.{set_twice}
use Rattle.source_trait.specs.Asking.{Seen, FaultsGoOn}
use Rattle.source_trait.specs.Lanes.{names_of, place_from, source_of, AtKind, StepsAt, StepsOn, KindsStay}
use Rattle.source_trait.specs.declared.lanes.Kind.{Kind}
use Rattle.source_trait.proofs.LaneSteps.{some_place, StepsOn-names, KindsStay-names}
use Rattle.middleware.specs.Attaching.{OnlyFirst}

pub set_other : {X : Type 0} (xs : List X) (p q : ℕ) (y : X) → q ≢ p → slice_get (slice_set xs p y) q ≡ slice_get xs q
set_other [] p q y apart = refl
set_other (x ∷ xs) zero zero y apart = absurd (apart refl)
set_other (x ∷ xs) zero (suc q) y apart = refl
set_other (x ∷ xs) (suc p) zero y apart = refl
set_other (x ∷ xs) (suc p) (suc q) y apart = set_other xs p q y (λ e. apart (ap suc e))

pub set_same : {X : Type 0} (xs : List X) (p : ℕ) (x y : X) → slice_get xs p ≡ Some x → slice_get (slice_set xs p y) p ≡ Some y
set_same [] p x y h = absurd (cc)
set_same (z ∷ xs) zero x y h = refl
set_same (z ∷ xs) (suc p) x y h = set_same xs p x y h

set_got : {X : Type 0} (xs : List X) (p : ℕ) (x : X) → slice_get xs p ≡ Some x → slice_set xs p x ≡ xs
set_got [] p x h = absurd (cc)
set_got (z ∷ xs) zero x h = ap (λ (y : _). y ∷ xs) (sym (some_injective z x h))
set_got (z ∷ xs) (suc p) x h = ap (λ (l : List _). z ∷ l) (set_got xs p x h)

-- a place that is found is one of the list
place_got : {S : Type 0} (n : ℕ) (name : List ℕ) (kinds : List (Kind S)) (p : ℕ) → place_from n name (names_of kinds) ≡ Some p → (q : ℕ) × (p ≡ n + q) × ((k : Kind S) × (slice_get kinds q ≡ Some k))
place_got n name [] p h = absurd (cc)
place_got {S} n name (x ∷ xs) p h = go (pointwise nat_eq x.name name) (place_got (n + 1) name xs p) h
  where
    go : (b : Bool) → (place_from (n + 1) name (names_of xs) ≡ Some p → (q : ℕ) × (p ≡ (n + 1) + q) × ((k : Kind S) × (slice_get xs q ≡ Some k)))
        → cond b (Some n) (place_from (n + 1) name (names_of xs)) ≡ Some p → (q : ℕ) × (p ≡ n + q) × ((k : Kind S) × (slice_get (x ∷ xs) q ≡ Some k))
    go true later h = let e : n ≡ p = some_injective n p h in (0, omega (arith, e), (x, refl))
    go false later h = let (q, e, k) = later h in (suc q, omega (arith, e), k)

-- the name of a place that is found
place_named : {S : Type 0} (n q : ℕ) (kind : List ℕ) (kinds : List (Kind S)) (k : Kind S) → place_from n kind (names_of kinds) ≡ Some (n + q) → slice_get kinds q ≡ Some k → k.name ≡ kind
place_named n q kind [] k is got = absurd (cc)
place_named n zero kind (x ∷ kinds) k is got =
    let e : x ≡ k = some_injective x k got in
    ap (λ (y : Kind _). y.name) (sym e) ∙ go (pointwise nat_eq x.name kind) refl is
  where
    above : (m : ℕ) (names : List (List ℕ)) (p : ℕ) → place_from m kind names ≡ Some p → m ≤ p
    above m [] p h = absurd (cc)
    above m (name ∷ names) p h = step (pointwise nat_eq name kind) h (above (m + 1) names p)
      where
        step : (b : Bool) → cond b (Some m) (place_from (m + 1) kind names) ≡ Some p → (place_from (m + 1) kind names ≡ Some p → m + 1 ≤ p) → m ≤ p
        step true h later = let same : m ≡ p = some_injective m p h in omega (arith, same)
        step false h later = let more = later h in omega (arith, more)

    go : (b : Bool) → pointwise nat_eq x.name kind ≡ b → cond b (Some n) (place_from (n + 1) kind (names_of kinds)) ≡ Some (n + zero) → x.name ≡ kind
    go true test h = (bytes_eq-Decides x.name kind).0 test
    go false test h = let more = above (n + 1) (names_of kinds) (n + zero) h in absurd (omega (arith, more))
place_named n (suc q) kind (x ∷ kinds) k is got = go (pointwise nat_eq x.name kind) is (λ h. place_named (n + 1) q kind kinds k h got)
  where
    go : (b : Bool) → cond b (Some n) (place_from (n + 1) kind (names_of kinds)) ≡ Some (n + suc q) → (place_from (n + 1) kind (names_of kinds) ≡ Some ((n + 1) + q) → k.name ≡ kind) → k.name ≡ kind
    go true h later = let same : n ≡ n + suc q = some_injective n (n + suc q) h in absurd (omega (arith, same))
    go false h later = let e : n + suc q ≡ (n + 1) + q = omega arith in later (h ∙ ap Some e)

-- the place at which a source of a kind made its step
pub placed : {S : Type 0} (old new : List (Kind S)) (kind : List ℕ) (step : S → S → Type 0) → StepsOn old new kind step →
    (place : ℕ) × (place_from 0 kind (names_of old) ≡ Some place) × StepsAt old new place step
placed old new kind step steps = go (place_from 0 kind (names_of old)) refl steps
  where
    go : (o : Option ℕ) → place_from 0 kind (names_of old) ≡ o → IsSomeAnd o (λ place. StepsAt old new place step) → (place : ℕ) × (place_from 0 kind (names_of old) ≡ Some place) × StepsAt old new place step
    go None is h = absurd h
    go (Some place) is h = (place, is, h)

pub steps_here : {S : Type 0} (old new : List (Kind S)) (kind : List ℕ) (step : S → S → Type 0) (place : ℕ) → place_from 0 kind (names_of old) ≡ Some place → StepsAt old new place step → StepsOn old new kind step
steps_here old new kind step place is at = subst (λ (o : Option ℕ). IsSomeAnd o (λ place. StepsAt old new place step)) (sym is) at

module _ {S : Type 0} where
  -- a source that does nothing
  pub StepsOn-refl : (kinds : List (Kind S)) (kind : List ℕ) (step : S → S → Type 0) → ((s : S) → step s s) → AtKind kinds kind (λ s. Unit {0}) → StepsOn kinds kinds kind step
  StepsOn-refl kinds kind step same there = go (place_from 0 kind (names_of kinds)) refl (some_place 0 kind kinds (λ s. Unit {0}) there)
    where
      go : (o : Option ℕ) → place_from 0 kind (names_of kinds) ≡ o → IsSome o → StepsOn kinds kinds kind step
      go None is h = absurd (cc)
      go (Some place) is h =
          let (q, e, (k, got)) = place_got 0 kind kinds place is in
          let here : place ≡ q = omega (arith, e) in
          let at : slice_get kinds place ≡ Some k = ap (slice_get kinds) here ∙ got in
          steps_here kinds kinds kind step place is (record { before = k; after = k; there = at; now = sym (set_got kinds place k at); name = refl; steps = same k.object })

  -- two steps of one source, one after the other
  pub StepsOn-trans : (old mid new : List (Kind S)) (kind : List ℕ) (first second both : S → S → Type 0) → ((s t u : S) → first s t → second t u → both s u)
      → StepsOn old mid kind first → StepsOn mid new kind second → StepsOn old new kind both
  StepsOn-trans old mid new kind first second both together h k =
      let (p, is, one) = placed old mid kind first h in
      let (q, js, two) = placed mid new kind second k in
      let names : names_of mid ≡ names_of old = StepsOn-names old mid first kind h in
      let same : p ≡ q = some_injective p q (sym is ∙ ap (place_from 0 kind) (sym names) ∙ js) in
      let here : slice_get mid p ≡ Some one.after = ap (λ (l : List (Kind S)). slice_get l p) one.now ∙ set_same old p one.before one.after one.there in
      let met : one.after ≡ two.before = some_injective one.after two.before (sym here ∙ ap (slice_get mid) same ∙ two.there) in
      let after : new ≡ slice_set old p two.after =
      two.now ∙ ap (λ n. slice_set mid n two.after) (sym same) ∙ ap (λ (l : List (Kind S)). slice_set l p two.after) one.now ∙ set_twice old p one.after two.after in
      let moves : second one.after.object two.after.object = subst (λ (x : Kind S). second x.object two.after.object) (sym met) two.steps in
      let called : two.after.name ≡ one.before.name = two.name ∙ ap (λ (x : Kind S). x.name) (sym met) ∙ one.name in
      steps_here old new kind both p is (record {
        before = one.before;
        after = two.after;
        there = one.there;
        now = after;
        name = called;
        steps = together one.before.object one.after.object two.after.object one.steps moves;
      })

  -- what a step does to each place
  pub StepsOn-only : (old new : List (Kind S)) (kind : List ℕ) (step : S → S → Type 0) (each : List ℕ → S → S → Type 0) → ((s t : S) → step s t → each kind s t) → StepsOn old new kind step → OnlyFirst each old new
  StepsOn-only old new kind step each follows steps = λ place before after got now.
      let (p, is, at) = placed old new kind step steps in
      go place before after got now p is at
    where
      go : (place : ℕ) (before after : Kind S) → slice_get old place ≡ Some before → slice_get new place ≡ Some after → (p : ℕ) → place_from 0 kind (names_of old) ≡ Some p → StepsAt old new p step →
          (after ≡ before) ⊎ ((place_from 0 before.name (names_of old) ≡ Some place) × each before.name before.object after.object)
      go place before after got now p is at = elim (cases_eq place p) [
        | inl here ↦
            let was : before ≡ at.before = some_injective before at.before (sym got ∙ ap (slice_get old) here ∙ at.there) in
            let became : after ≡ at.after = some_injective after at.after (sym now ∙ ap (slice_get new) here ∙ ap (λ (l : List (Kind S)). slice_get l p) at.now ∙ set_same old p at.before at.after at.there) in
            let zeroth : p ≡ 0 + p = omega arith in
            let named : at.before.name ≡ kind = place_named 0 p kind old at.before (is ∙ ap Some zeroth) at.there in
            let name : before.name ≡ kind = ap (λ (k : Kind S). k.name) was ∙ named in
            let P : List ℕ → Kind S → Kind S → Type 0 = λ n b a. each n b.object a.object in
            inr (
              ap (λ n. place_from 0 n (names_of old)) name ∙ is ∙ ap Some (sym here),
              subst (λ n. P n before after) (sym name) (subst (λ b. P kind b after) (sym was) (subst (λ a. P kind at.before a) (sym became) (follows at.before.object at.after.object at.steps))),
            )
        | inr apart ↦ inl (some_injective after before (sym now ∙ ap (λ (l : List (Kind S)). slice_get l place) at.now ∙ set_other old p place at.after apart ∙ got))
      ]

  pub OnlyFirst-refl : (each : List ℕ → S → S → Type 0) (kinds : List (Kind S)) → OnlyFirst each kinds kinds
  OnlyFirst-refl each kinds = λ place before after got now. inl (some_injective after before (sym now ∙ got))

  stays_got : (seen : S → Seen) (old new : List (Kind S)) (place : ℕ) (before : Kind S) → KindsStay seen old new → slice_get old place ≡ Some before → (after : Kind S) × (slice_get new place ≡ Some after) × (after.name ≡ before.name)
  stays_got seen [] new place before stay got = absurd (cc)
  stays_got seen (x ∷ xs) [] place before stay got = absurd stay
  stays_got seen (x ∷ xs) (y ∷ ys) zero before stay got = (y, refl, stay.0.name ∙ ap (λ (k : Kind S). k.name) (some_injective x before got))
  stays_got seen (x ∷ xs) (y ∷ ys) (suc place) before stay got = stays_got seen xs ys place before stay.1 got

  abbrev IsLater : (S → Seen) → S → Option S → Type 0
  IsLater seen b found = (a : S) × (found ≡ Some a) × FaultsGoOn (seen b) (seen a)

  abbrev IsEarlier : (S → Seen) → S → Option S → Type 0
  IsEarlier seen a found = (b : S) × (found ≡ Some b) × FaultsGoOn (seen b) (seen a)

  -- a source is there later on where it was before, and its count of faults went on
  pub later_source : (seen : S → Seen) (old new : List (Kind S)) (kind : List ℕ) (b : S) → KindsStay seen old new → source_of old kind ≡ Some b
      → IsLater seen b (source_of new kind)
  later_source seen [] new kind b stay e = absurd (cc)
  later_source seen (x ∷ xs) [] kind b stay e = absurd stay
  later_source seen (x ∷ xs) (y ∷ ys) kind b stay e =
      go (pointwise nat_eq x.name kind) (ap (λ (n : List ℕ). pointwise nat_eq n kind) (sym stay.0.name)) e (λ f. later_source seen xs ys kind b stay.1 f)
    where
      go : (t : Bool) → t ≡ pointwise nat_eq y.name kind → cond t (Some x.object) (source_of xs kind) ≡ Some b → (source_of xs kind ≡ Some b → IsLater seen b (source_of ys kind))
          → IsLater seen b (cond (pointwise nat_eq y.name kind) (Some y.object) (source_of ys kind))
      go true test e later =
          (y.object, ap (λ c. cond c (Some y.object) (source_of ys kind)) (sym test), subst (λ (s : S). FaultsGoOn (seen s) (seen y.object)) (some_injective x.object b e) stay.0.faults)
      go false test e later = let (a, at, goes) = later e in (a, ap (λ c. cond c (Some y.object) (source_of ys kind)) (sym test) ∙ at, goes)

  -- a source was there before where it is there now
  pub earlier_source : (seen : S → Seen) (old new : List (Kind S)) (kind : List ℕ) (a : S) → KindsStay seen old new → source_of new kind ≡ Some a
      → IsEarlier seen a (source_of old kind)
  earlier_source seen [] [] kind a stay e = absurd (cc)
  earlier_source seen [] (y ∷ ys) kind a stay e = absurd stay
  earlier_source seen (x ∷ xs) [] kind a stay e = absurd stay
  earlier_source seen (x ∷ xs) (y ∷ ys) kind a stay e =
      go (pointwise nat_eq y.name kind) (ap (λ (n : List ℕ). pointwise nat_eq n kind) stay.0.name) e (λ f. earlier_source seen xs ys kind a stay.1 f)
    where
      go : (t : Bool) → t ≡ pointwise nat_eq x.name kind → cond t (Some y.object) (source_of ys kind) ≡ Some a → (source_of ys kind ≡ Some a → IsEarlier seen a (source_of xs kind))
          → IsEarlier seen a (cond (pointwise nat_eq x.name kind) (Some x.object) (source_of xs kind))
      go true test e later =
          (x.object, ap (λ c. cond c (Some x.object) (source_of xs kind)) (sym test), subst (λ (s : S). FaultsGoOn (seen x.object) (seen s)) (some_injective y.object a e) stay.0.faults)
      go false test e later = let (b, at, goes) = later e in (b, ap (λ c. cond c (Some x.object) (source_of xs kind)) (sym test) ∙ at, goes)

  -- one after the other, where the relation goes on
  pub OnlyFirst-trans : (seen : S → Seen) (each : List ℕ → S → S → Type 0) → ((n : List ℕ) (s t u : S) → each n s t → each n t u → each n s u) → (old mid new : List (Kind S))
      → KindsStay seen old mid → OnlyFirst each old mid → OnlyFirst each mid new → OnlyFirst each old new
  OnlyFirst-trans seen each goes_on old mid new stay h k = λ place before after got now.
      let (between, at, name) = stays_got seen old mid place before stay got in
      both place before between after name (h place before between got at) (k place between after at now)
    where
      names : names_of mid ≡ names_of old
      names = KindsStay-names seen old mid stay

      both : (place : ℕ) (before between after : Kind S) → between.name ≡ before.name →
          (between ≡ before) ⊎ ((place_from 0 before.name (names_of old) ≡ Some place) × each before.name before.object between.object) →
          (after ≡ between) ⊎ ((place_from 0 between.name (names_of mid) ≡ Some place) × each between.name between.object after.object) →
          (after ≡ before) ⊎ ((place_from 0 before.name (names_of old) ≡ Some place) × each before.name before.object after.object)
      both place before between after name (inl same) (inl then) = inl (then ∙ same)
      both place before between after name (inr moved) (inl then) = inr (moved.0, subst (λ (a : Kind S). each before.name before.object a.object) (sym then) moved.1)
      both place before between after name (inl same) (inr moved) = inr (
        ap (place_from 0 before.name) (sym names) ∙ ap (λ n. place_from 0 n (names_of mid)) (sym name) ∙ moved.0,
        subst (λ (n : List ℕ). each n before.object after.object) name (subst (λ (b : Kind S). each between.name b.object after.object) same moved.1),
      )
      both place before between after name (inr first) (inr second) = inr (
        first.0,
        goes_on before.name before.object between.object after.object first.1 (subst (λ (n : List ℕ). each n between.object after.object) name second.1),
      )
