-- What a step of one source does to its lane, and what stays.
use Rattle.std.proofs.Common.{◌≡◌, ◌≢◌, ◌+◌, ◌≤◌, ◌⊎◌, inl, inr, ℕ, zero, suc, Bool, true, false, cond, List, [], ◌∷◌, Option, None, Some, refl, sym, ◌∙◌, ap, subst, arith, nat_eq}
use Rattle.std.specs.Prelude.{slice_get, slice_set, IsSome, IfSome, IsSomeAnd}
use Rattle.std.specs.Bool.{Decides}
use Rattle.std.specs.Cmp.Lexicographic.{pointwise}
use Rattle.std.proofs.lemmas.Slice.Eq.{bytes_eq-Decides}
use Rattle.source_trait.specs.Asking.{Seen, FaultsGoOn}
use Rattle.source_trait.specs.Lanes.{names_of, place_from, source_of, AtKind, StepsAt, StepsOn, SourceSteps, KindsStay, LanesStay}
use Rattle.source_trait.specs.declared.lanes.Kind.{Kind}
use Rattle.source_trait.specs.declared.lanes.Lane.{Lane}
use Rattle.source_trait.proofs.Faults.{FaultsGoOn-refl, FaultsGoOn-trans}

-- a place counted from n is no lower than n
place_from-above : (n : ℕ) (name : List ℕ) (xs : List (List ℕ)) (p : ℕ) → place_from n name xs ≡ Some p → n ≤ p
place_from-above n name [] p h = absurd (cc)
place_from-above n name (x ∷ xs) p h = go (pointwise nat_eq x name) (place_from-above (n + 1) name xs p) h
  where
    go : (b : Bool) → (place_from (n + 1) name xs ≡ Some p → n + 1 ≤ p) → cond b (Some n) (place_from (n + 1) name xs) ≡ Some p → n ≤ p
    go true later h = let e : n ≡ p = cc in omega arith
    go false later h = let r = later h in omega arith

module _ {S : Type 0} where
  -- the source of a kind is the one at its place
  pub source_of-place : (n q : ℕ) (name : List ℕ) (kinds : List (Kind S)) (k : Kind S) → place_from n name (names_of kinds) ≡ Some (n + q) → slice_get kinds q ≡ Some k
      → source_of kinds name ≡ Some k.object
  source_of-place n q name [] k h at = absurd (cc)
  source_of-place n zero name (x ∷ xs) k h at = go (pointwise nat_eq x.name name) h
    where
      go : (b : Bool) → cond b (Some n) (place_from (n + 1) name (names_of xs)) ≡ Some (n + zero) → cond b (Some x.object) (source_of xs name) ≡ Some k.object
      go true h = let e : x ≡ k = cc in ap (λ (y : Kind S). Some y.object) e
      go false h = let r = place_from-above (n + 1) name (names_of xs) (n + zero) h in absurd (omega arith)
  source_of-place n (suc q) name (x ∷ xs) k h at = go (pointwise nat_eq x.name name) (source_of-place (n + 1) q name xs k) h
    where
      go : (b : Bool) → (place_from (n + 1) name (names_of xs) ≡ Some ((n + 1) + q) → slice_get xs q ≡ Some k → source_of xs name ≡ Some k.object)
          → cond b (Some n) (place_from (n + 1) name (names_of xs)) ≡ Some (n + suc q) → cond b (Some x.object) (source_of xs name) ≡ Some k.object
      go true later h = let e : n ≡ n + suc q = cc in absurd (omega arith)
      go false later h = let e : n + suc q ≡ (n + 1) + q = omega arith in later (h ∙ ap Some e) at

  -- where no place has the name there is no source of it
  pub source_of-none : (n : ℕ) (name : List ℕ) (kinds : List (Kind S)) → place_from n name (names_of kinds) ≡ None → source_of kinds name ≡ None
  source_of-none n name [] h = refl
  source_of-none n name (x ∷ xs) h = go (pointwise nat_eq x.name name) (source_of-none (n + 1) name xs) h
    where
      go : (b : Bool) → (place_from (n + 1) name (names_of xs) ≡ None → source_of xs name ≡ None)
          → cond b (Some n) (place_from (n + 1) name (names_of xs)) ≡ None → cond b (Some x.object) (source_of xs name) ≡ None
      go true later h = absurd (cc)
      go false later h = later h

  -- what holds of the source of a kind holds at the kind's place
  pub ready_at : (name : List ℕ) (kinds : List (Kind S)) (P : S → Type 0) (place : ℕ) → place_from 0 name (names_of kinds) ≡ Some place → AtKind kinds name P
      → IfSome (slice_get kinds place) (λ k. P k.object)
  ready_at name kinds P place h holds = go (slice_get kinds place) refl
    where
      go : (found : Option (Kind S)) → slice_get kinds place ≡ found → IfSome found (λ k. P k.object)
      go None is = tt
      go (Some k) is =
          let e : place ≡ 0 + place = omega arith in
          subst (λ o. IsSomeAnd o P) (source_of-place 0 place name kinds k (h ∙ ap Some e) is) holds

  -- a kind whose source has a property has a place
  pub ready_none : (name : List ℕ) (kinds : List (Kind S)) (P : S → Type 0) → place_from 0 name (names_of kinds) ≡ None → AtKind kinds name P → ⊥
  ready_none name kinds P h holds = subst (λ o. IsSomeAnd o P) (source_of-none 0 name kinds h) holds

  -- where a name has a place, the lane has a source of it
  pub some_source : (n : ℕ) (name : List ℕ) (kinds : List (Kind S)) → IsSome (place_from n name (names_of kinds)) → AtKind kinds name (λ s. Unit {0})
  some_source n name [] h = absurd (cc)
  some_source n name (x ∷ xs) h = go (pointwise nat_eq x.name name) (some_source (n + 1) name xs) h
    where
      go : (b : Bool) → (IsSome (place_from (n + 1) name (names_of xs)) → AtKind xs name (λ s. Unit {0}))
          → IsSome (cond b (Some n) (place_from (n + 1) name (names_of xs))) → IsSomeAnd (cond b (Some x.object) (source_of xs name)) (λ s. Unit {0})
      go true later h = tt
      go false later h = later h

  -- where the lane has a source of a name, the name has a place
  pub some_place : (n : ℕ) (name : List ℕ) (kinds : List (Kind S)) (P : S → Type 0) → AtKind kinds name P → IsSome (place_from n name (names_of kinds))
  some_place n name [] P h = absurd h
  some_place n name (x ∷ xs) P h = go (pointwise nat_eq x.name name) (some_place (n + 1) name xs P) h
    where
      go : (b : Bool) → (AtKind xs name P → IsSome (place_from (n + 1) name (names_of xs)))
          → IsSomeAnd (cond b (Some x.object) (source_of xs name)) P → IsSome (cond b (Some n) (place_from (n + 1) name (names_of xs)))
      go true later h = refl
      go false later h = later h

  -- a first place of a name has that name
  place_from-name : (n q : ℕ) (name : List ℕ) (kinds : List (Kind S)) (k : Kind S) → place_from n name (names_of kinds) ≡ Some (n + q) → slice_get kinds q ≡ Some k → k.name ≡ name
  place_from-name n q name [] k h at = absurd (cc)
  place_from-name n zero name (x ∷ xs) k h at = go (pointwise nat_eq x.name name) (bytes_eq-Decides x.name name) h
    where
      go : (b : Bool) → Decides b (x.name ≡ name) → cond b (Some n) (place_from (n + 1) name (names_of xs)) ≡ Some (n + zero) → k.name ≡ name
      go true says h = let e : x ≡ k = cc in ap (λ (y : Kind S). y.name) (sym e) ∙ says.0 refl
      go false says h = let r = place_from-above (n + 1) name (names_of xs) (n + zero) h in absurd (omega arith)
  place_from-name n (suc q) name (x ∷ xs) k h at = go (pointwise nat_eq x.name name) (place_from-name (n + 1) q name xs k) h
    where
      go : (b : Bool) → (place_from (n + 1) name (names_of xs) ≡ Some ((n + 1) + q) → slice_get xs q ≡ Some k → k.name ≡ name)
          → cond b (Some n) (place_from (n + 1) name (names_of xs)) ≡ Some (n + suc q) → k.name ≡ name
      go true later h = let e : n ≡ n + suc q = cc in absurd (omega arith)
      go false later h = let e : n + suc q ≡ (n + 1) + q = omega arith in later (h ∙ ap Some e) at

  -- the kind that was put at a place stands there
  get-put : (q : ℕ) (kinds : List (Kind S)) (k after : Kind S) → slice_get kinds q ≡ Some k → slice_get (slice_set kinds q after) q ≡ Some after
  get-put q [] k after at = absurd (cc)
  get-put zero (x ∷ xs) k after at = refl
  get-put (suc q) (x ∷ xs) k after at = get-put q xs k after at

  -- a kind put in the place of one of its name leaves the names
  names-put : (q : ℕ) (kinds : List (Kind S)) (k after : Kind S) → slice_get kinds q ≡ Some k → after.name ≡ k.name → names_of (slice_set kinds q after) ≡ names_of kinds
  names-put q [] k after at name = absurd (cc)
  names-put zero (x ∷ xs) k after at name = let e : x ≡ k = cc in ap (λ (m : List ℕ). m ∷ names_of xs) (name ∙ ap (λ (y : Kind S). y.name) (sym e))
  names-put (suc q) (x ∷ xs) k after at name = ap (λ (l : List (List ℕ)). x.name ∷ l) (names-put q xs k after at name)

  -- what the source of a name is after a kind was put in the place of one of its name
  source-put : (q : ℕ) (kinds : List (Kind S)) (k after : Kind S) (other : List ℕ) → slice_get kinds q ≡ Some k → after.name ≡ k.name
      → (source_of (slice_set kinds q after) other ≡ source_of kinds other)
      ⊎ ((k.name ≡ other) × (source_of kinds other ≡ Some k.object) × (source_of (slice_set kinds q after) other ≡ Some after.object))
  source-put q [] k after other at name = absurd (cc)
  source-put zero (x ∷ xs) k after other at name =
      let e : k ≡ x = cc in
      go (pointwise nat_eq x.name other) refl (bytes_eq-Decides x.name other) (ap (λ (m : List ℕ). pointwise nat_eq m other) (name ∙ ap (λ (y : Kind S). y.name) e)) e
    where
      go : (b : Bool) → pointwise nat_eq x.name other ≡ b → Decides (pointwise nat_eq x.name other) (x.name ≡ other) → pointwise nat_eq after.name other ≡ pointwise nat_eq x.name other → k ≡ x
          → (cond (pointwise nat_eq after.name other) (Some after.object) (source_of xs other) ≡ cond (pointwise nat_eq x.name other) (Some x.object) (source_of xs other))
          ⊎ ((k.name ≡ other) × (cond (pointwise nat_eq x.name other) (Some x.object) (source_of xs other) ≡ Some k.object)
          × (cond (pointwise nat_eq after.name other) (Some after.object) (source_of xs other) ≡ Some after.object))
      go true is says same e = inr (
        ap (λ (y : Kind S). y.name) e ∙ says.0 is,
        ap (λ b. cond b (Some x.object) (source_of xs other)) is ∙ ap (λ (y : Kind S). Some y.object) (sym e),
        ap (λ b. cond b (Some after.object) (source_of xs other)) (same ∙ is),
      )
      go false is says same e = inl (ap (λ b. cond b (Some after.object) (source_of xs other)) (same ∙ is) ∙ ap (λ b. cond b (Some x.object) (source_of xs other)) (sym is))
  source-put (suc q) (x ∷ xs) k after other at name = go (pointwise nat_eq x.name other) (source-put q xs k after other at name)
    where
      go : (b : Bool)
          → ((source_of (slice_set xs q after) other ≡ source_of xs other)
          ⊎ ((k.name ≡ other) × (source_of xs other ≡ Some k.object) × (source_of (slice_set xs q after) other ≡ Some after.object)))
          → (cond b (Some x.object) (source_of (slice_set xs q after) other) ≡ cond b (Some x.object) (source_of xs other))
          ⊎ ((k.name ≡ other) × (cond b (Some x.object) (source_of xs other) ≡ Some k.object) × (cond b (Some x.object) (source_of (slice_set xs q after) other) ≡ Some after.object))
      go true later = inl refl
      go false later = later

  -- what follows from a property of the source of a kind holds of it too
  pub AtKind-map : (name : List ℕ) (kinds : List (Kind S)) (P Q : S → Type 0) → ((s : S) → P s → Q s) → AtKind kinds name P → AtKind kinds name Q
  AtKind-map name kinds P Q follows holds = go (source_of kinds name) holds
    where
      go : (found : Option S) → IsSomeAnd found P → IsSomeAnd found Q
      go None holds = absurd holds
      go (Some s) holds = follows s holds

  -- kinds stay where nothing happens to them
  pub KindsStay-refl : (seen : S → Seen) (kinds : List (Kind S)) → KindsStay seen kinds kinds
  KindsStay-refl seen [] = tt
  KindsStay-refl seen (x ∷ xs) = (record { name = refl; faults = FaultsGoOn-refl (seen x.object) }, KindsStay-refl seen xs)

  pub KindsStay-trans : (seen : S → Seen) (first middle last : List (Kind S)) → KindsStay seen first middle → KindsStay seen middle last → KindsStay seen first last
  KindsStay-trans seen [] [] [] h k = tt
  KindsStay-trans seen [] [] (z ∷ zs) h k = absurd k
  KindsStay-trans seen [] (y ∷ ys) last h k = absurd h
  KindsStay-trans seen (x ∷ xs) [] last h k = absurd h
  KindsStay-trans seen (x ∷ xs) (y ∷ ys) [] h k = absurd k
  KindsStay-trans seen (x ∷ xs) (y ∷ ys) (z ∷ zs) h k =
      (record { name = k.0.name ∙ h.0.name; faults = FaultsGoOn-trans (seen x.object) (seen y.object) (seen z.object) h.0.faults k.0.faults }, KindsStay-trans seen xs ys zs h.1 k.1)

  -- kinds that stay keep their names in order
  pub KindsStay-names : (seen : S → Seen) (old new : List (Kind S)) → KindsStay seen old new → names_of new ≡ names_of old
  KindsStay-names seen [] [] h = refl
  KindsStay-names seen [] (y ∷ ys) h = absurd h
  KindsStay-names seen (x ∷ xs) [] h = absurd h
  KindsStay-names seen (x ∷ xs) (y ∷ ys) h = ap (λ (m : List ℕ). m ∷ names_of ys) h.0.name ∙ ap (λ (l : List (List ℕ)). x.name ∷ l) (KindsStay-names seen xs ys h.1)

  stays-put : (seen : S → Seen) (q : ℕ) (kinds : List (Kind S)) (k after : Kind S) → slice_get kinds q ≡ Some k → after.name ≡ k.name
      → FaultsGoOn (seen k.object) (seen after.object) → KindsStay seen kinds (slice_set kinds q after)
  stays-put seen q [] k after at name goes = absurd (cc)
  stays-put seen zero (x ∷ xs) k after at name goes =
      let e : k ≡ x = cc in
      (record { name = name ∙ ap (λ (y : Kind S). y.name) e; faults = subst (λ (y : Kind S). FaultsGoOn (seen y.object) (seen after.object)) e goes }, KindsStay-refl seen xs)
  stays-put seen (suc q) (x ∷ xs) k after at name goes = (record { name = refl; faults = FaultsGoOn-refl (seen x.object) }, stays-put seen q xs k after at name goes)

  module _ (old new : List (Kind S)) (step : S → S → Type 0) where
    -- a step of one source leaves the kinds in their order, where its count of faults goes on
    pub StepsAt-stays : (seen : S → Seen) (place : ℕ) → ((s t : S) → step s t → FaultsGoOn (seen s) (seen t)) → StepsAt old new place step → KindsStay seen old new
    StepsAt-stays seen place goes h = subst (λ (l : List (Kind S)). KindsStay seen old l) (sym h.now) (stays-put seen place old h.before h.after h.there h.name (goes _ _ h.steps))

    -- a step of one source leaves the names
    pub StepsAt-names : (place : ℕ) → StepsAt old new place step → names_of new ≡ names_of old
    StepsAt-names place h = ap names_of h.now ∙ names-put place old h.before h.after h.there h.name

    -- of every name the source stayed or made the step
    pub StepsAt-source : (place : ℕ) (other : List ℕ) → StepsAt old new place step → (source_of new other ≡ source_of old other) ⊎ SourceSteps old new other step
    StepsAt-source place other h = elim (source-put place old h.before h.after other h.there h.name) [
      | inl same ↦ inl (ap (λ (l : List (Kind S)). source_of l other) h.now ∙ same)
      | inr moved ↦ inr (record {
        before = h.before.object;
        after = h.after.object;
        was = moved.1;
        now = ap (λ (l : List (Kind S)). source_of l other) h.now ∙ moved.2;
        steps = h.steps;
      })
    ]

    -- what the step keeps holds of the source of each name after it
    pub StepsAt-keeps : (place : ℕ) (other : List ℕ) (P : S → Type 0) → ((s t : S) → P s → step s t → P t) → StepsAt old new place step → AtKind old other P → AtKind new other P
    StepsAt-keeps place other P keeps h holds = elim (StepsAt-source place other h) [
      | inl same ↦ subst (λ o. IsSomeAnd o P) (sym same) holds
      | inr moved ↦ subst (λ o. IsSomeAnd o P) (sym moved.now) (keeps moved.before moved.after (subst (λ o. IsSomeAnd o P) moved.was holds) moved.steps)
    ]

    -- the place at which a source of a kind made its step
    at_place : {P : Type 0} (kind : List ℕ) → ((place : ℕ) → place_from 0 kind (names_of old) ≡ Some place → StepsAt old new place step → P) → StepsOn old new kind step → P
    at_place {P} kind use_it h = go (place_from 0 kind (names_of old)) refl h
      where
        go : (found : Option ℕ) → place_from 0 kind (names_of old) ≡ found → IsSomeAnd found (λ place. StepsAt old new place step) → P
        go None is h = absurd h
        go (Some place) is h = use_it place is h

    -- a step of the source of a kind leaves the kinds in their order, where its count of faults goes on
    pub StepsOn-stays : (seen : S → Seen) (kind : List ℕ) → ((s t : S) → step s t → FaultsGoOn (seen s) (seen t)) → StepsOn old new kind step → KindsStay seen old new
    StepsOn-stays seen kind goes h = at_place kind (λ place is at. StepsAt-stays seen place goes at) h

    -- a step of the source of a kind leaves the names
    pub StepsOn-names : (kind : List ℕ) → StepsOn old new kind step → names_of new ≡ names_of old
    StepsOn-names kind h = at_place kind (λ place is at. StepsAt-names place at) h

    -- the source of the kind made the step
    pub StepsOn-source : (kind : List ℕ) → StepsOn old new kind step → SourceSteps old new kind step
    StepsOn-source kind h = at_place kind stepped h
      where
        stepped : (place : ℕ) → place_from 0 kind (names_of old) ≡ Some place → StepsAt old new place step → SourceSteps old new kind step
        stepped place is at =
            let e : place ≡ 0 + place = omega arith in
            let was : source_of old kind ≡ Some at.before.object = source_of-place 0 place kind old at.before (is ∙ ap Some e) at.there in
            let names : names_of (slice_set old place at.after) ≡ names_of old = names-put place old at.before at.after at.there at.name in
            let there : place_from 0 kind (names_of (slice_set old place at.after)) ≡ Some (0 + place) = ap (place_from 0 kind) names ∙ is ∙ ap Some e in
            let now : source_of (slice_set old place at.after) kind ≡ Some at.after.object = source_of-place 0 place kind (slice_set old place at.after) at.after there (get-put place old at.before at.after at.there) in
            record { before = at.before.object; after = at.after.object; was = was; now = ap (λ (l : List (Kind S)). source_of l kind) at.now ∙ now; steps = at.steps }

    -- what the step brings about holds of the source of the kind after it
    pub StepsOn-after : (kind : List ℕ) (P Q : S → Type 0) → ((s t : S) → P s → step s t → Q t) → StepsOn old new kind step → AtKind old kind P → AtKind new kind Q
    StepsOn-after kind P Q after h holds =
        let at = StepsOn-source kind h in
        subst (λ o. IsSomeAnd o Q) (sym at.now) (after at.before at.after (subst (λ o. IsSomeAnd o P) at.was holds) at.steps)

    -- the sources of the other names stayed
    pub StepsOn-others : (kind other : List ℕ) → other ≢ kind → StepsOn old new kind step → source_of new other ≡ source_of old other
    StepsOn-others kind other apart h = at_place kind stayed h
      where
        stayed : (place : ℕ) → place_from 0 kind (names_of old) ≡ Some place → StepsAt old new place step → source_of new other ≡ source_of old other
        stayed place is at =
            let e : place ≡ 0 + place = omega arith in
            let name : at.before.name ≡ kind = place_from-name 0 place kind old at.before (is ∙ ap Some e) at.there in
            elim (source-put place old at.before at.after other at.there at.name) [
              | inl same ↦ ap (λ (l : List (Kind S)). source_of l other) at.now ∙ same
              | inr moved ↦ absurd (apart (sym moved.0 ∙ name))
            ]

    -- what the step keeps holds of the source of each name after it
    pub StepsOn-keeps : (kind other : List ℕ) (P : S → Type 0) → ((s t : S) → P s → step s t → P t) → StepsOn old new kind step → AtKind old other P → AtKind new other P
    StepsOn-keeps kind other P keeps h holds = at_place kind (λ place is at. StepsAt-keeps place other P keeps at holds) h

  -- lanes stay where nothing happens to them
  pub LanesStay-refl : (seen : S → Seen) (lanes : List (Lane S)) → LanesStay seen lanes lanes
  LanesStay-refl seen [] = tt
  LanesStay-refl seen (x ∷ xs) = (KindsStay-refl seen x.kinds.items, LanesStay-refl seen xs)

  pub LanesStay-trans : (seen : S → Seen) (first middle last : List (Lane S)) → LanesStay seen first middle → LanesStay seen middle last → LanesStay seen first last
  LanesStay-trans seen [] [] [] h k = tt
  LanesStay-trans seen [] [] (z ∷ zs) h k = absurd k
  LanesStay-trans seen [] (y ∷ ys) last h k = absurd h
  LanesStay-trans seen (x ∷ xs) [] last h k = absurd h
  LanesStay-trans seen (x ∷ xs) (y ∷ ys) [] h k = absurd k
  LanesStay-trans seen (x ∷ xs) (y ∷ ys) (z ∷ zs) h k = (KindsStay-trans seen x.kinds.items y.kinds.items z.kinds.items h.0 k.0, LanesStay-trans seen xs ys zs h.1 k.1)
