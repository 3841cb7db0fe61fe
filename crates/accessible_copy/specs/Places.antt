-- Where values stand first.
use Rattle.std.specs.Prelude.{◌≡◌, ℕ, suc, ◌<◌, ◌≤◌, ◌==◌, List, [], ◌∷◌, Contains, take, slice_get, slice_index, unwrap_or, Some, if◌then◌else◌}
use Rattle.std.specs.declared.cmp.Ordering.{Ordering}
use Rattle.std.specs.Ordering.{nat_cmp}
use Rattle.std.specs.Cmp.Lexicographic.{slice_cmp}
use Rattle.std.specs.BTreeMap.{get}
use Rattle.meaning.specs.declared.types.Ground.{Ground}
use Rattle.meaning.specs.declared.types.Val.{Val}
use Rattle.meaning.specs.declared.types.Val.TheVariants.{Const, Label}
use Rattle.accessible_copy.specs.declared.first_places.FirstPlaces.{FirstPlaces}

-- texts by their bytes
abbrev pub text_cmp : List ℕ → List ℕ → Ordering
text_cmp = slice_cmp nat_cmp

-- The place that was set for a value, or 0.
abbrev pub place_in : FirstPlaces → Val → ℕ
place_in places (Const text) = unwrap_or (get text_cmp places.constants text) 0
place_in places (Label label) = slice_index places.labels.items label

-- Each of the values has the place at which it stands first.
abbrev pub AreFirstPlaces : List Val → (Val → ℕ) → Type 0
AreFirstPlaces values place = (n : ℕ) (v : Val) → Contains (take n values) v → (place v < n) × (slice_get values (place v) ≡ Some v)

-- A fact of the relation stands at the place.
abbrev pub IsOfRelation : List Ground → ℕ → ℕ → Type 0
IsOfRelation facts place rel = (fact : Ground) × (slice_get facts place ≡ Some fact) × (fact.rel ≡ rel)

-- The relation of each fact has a place, not behind the fact's, at which a fact of the relation stands.
abbrev pub AreFirstOfRelations : List Ground → List ℕ → Type 0
AreFirstOfRelations facts places = (n : ℕ) (fact : Ground) → slice_get facts n ≡ Some fact →
    (slice_index places fact.rel ≤ n) × IsOfRelation facts (slice_index places fact.rel) fact.rel

-- The facts, of which the first stands at this place, that do not stand at the first place of their relation.
abbrev pub others_of : ℕ → List ℕ → List Ground → List Ground
others_of place firsts [] = []
others_of place firsts (fact ∷ facts) =
    if slice_index firsts fact.rel == place then others_of (suc place) firsts facts else fact ∷ others_of (suc place) firsts facts

-- The facts with the places of the first ones of their relations, and the others.
abbrev pub AreIndexed : List Ground → List ℕ → List Ground → Type 0
AreIndexed facts firsts others = AreFirstOfRelations facts firsts × (others ≡ others_of 0 firsts facts)
