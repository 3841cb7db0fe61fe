-- Kinds of sources on a lane, and what a step of one source does to its lane.
use Rattle.std.specs.Prelude.{◌≡◌, ℕ, ◌+◌, List, [], ◌∷◌, map, Option, None, Some, IsSomeAnd, slice_get, slice_set, nat_eq, if◌then◌else◌}
use Rattle.std.specs.List.{AllZip}
use Rattle.std.specs.Cmp.Lexicographic.{pointwise}
use Rattle.source_trait.specs.Asking.{Seen, FaultsGoOn}
use Rattle.source_trait.specs.declared.lanes.Kind.{Kind}
use Rattle.source_trait.specs.declared.lanes.Lane.{Lane}

-- the names of kinds, in order
abbrev pub names_of : {S : Type 0} → List (Kind S) → List (List ℕ)
names_of kinds = map (λ k. k.name) kinds

-- the place of the first such name, counted from n
abbrev pub place_from : ℕ → List ℕ → List (List ℕ) → Option ℕ
place_from n name [] = None
place_from n name (x ∷ xs) = if pointwise nat_eq x name then Some n else place_from (n + 1) name xs

-- the source of the first kind of the name
abbrev pub source_of : {S : Type 0} → List (Kind S) → List ℕ → Option S
source_of [] name = None
source_of (k ∷ ks) name = if pointwise nat_eq k.name name then Some k.object else source_of ks name

-- there is a kind of the name, and its source has the property
abbrev pub AtKind : {S : Type 0} → List (Kind S) → List ℕ → (S → Type 0) → Type 0
AtKind kinds kind P = IsSomeAnd (source_of kinds kind) P

-- one source made a step, at its place, and nothing else changed
pub record StepsAt {S : Type 0} (old new : List (Kind S)) (place : ℕ) (step : S → S → Type 0) : Type 0 where
  -- the kind at the place before the step
  pub before : Kind S
  -- the kind at the place after it
  pub after : Kind S
  -- the place is one of the lane
  pub there : slice_get old place ≡ Some before
  -- only this place changed
  pub now : new ≡ slice_set old place after
  -- its name stays
  pub name : after.name ≡ before.name
  -- its source made the step
  pub steps : step before.object after.object

-- the source of the first kind of the name made a step, and nothing else changed
abbrev pub StepsOn : {S : Type 0} → List (Kind S) → List (Kind S) → List ℕ → (S → S → Type 0) → Type 0
StepsOn old new kind step = IsSomeAnd (place_from 0 kind (names_of old)) (λ place. StepsAt old new place step)

-- the source of a kind made a step from the one before to the one after
pub record SourceSteps {S : Type 0} (old new : List (Kind S)) (kind : List ℕ) (step : S → S → Type 0) : Type 0 where
  pub before : S
  pub after : S
  pub was : source_of old kind ≡ Some before
  pub now : source_of new kind ≡ Some after
  pub steps : step before after

-- a kind keeps its name, and the count of faults of its source goes on
pub record KindStays {S : Type 0} (seen : S → Seen) (old new : Kind S) : Type 0 where
  pub name : new.name ≡ old.name
  pub faults : FaultsGoOn (seen old.object) (seen new.object)

-- the kinds of a lane stay in their order
abbrev pub KindsStay : {S : Type 0} → (S → Seen) → List (Kind S) → List (Kind S) → Type 0
KindsStay seen old new = AllZip (KindStays seen) old new

-- the lanes stay in their order, each with its kinds
abbrev pub LanesStay : {S : Type 0} → (S → Seen) → List (Lane S) → List (Lane S) → Type 0
LanesStay seen old new = AllZip (λ before after. KindsStay seen before.kinds.items after.kinds.items) old new
