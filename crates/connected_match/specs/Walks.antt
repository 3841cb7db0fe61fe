-- Rows between links.
use Rattle.std.specs.Prelude.{◌≡◌, ℕ, ◌<◌, List, [], ◌∷◌, Bool, true, false, Contains, length, map}
use Rattle.meaning.specs.declared.types.Val.{Val}
use Rattle.homomorphism.specs.declared.assignment.Assignment.{Assignment}
use Rattle.homomorphism.specs.Bindings.{at}
use Rattle.std.specs.declared.cmp.Ordering.{Ordering}
use Rattle.std.specs.BTreeSet.{BTreeSet, contains}
use Rattle.connected_match.specs.declared.walk.Point.{Point}
use Rattle.connected_match.specs.contracts.walk.PointOrd.TheImpl as point_ord

-- The rows at a place.
abbrev pub points_at : ℕ → List (List Val) → List Point
points_at place rows = map (λ row. record { place = place; row = row }) rows

-- The empty row, where there is one at all.
abbrev pub empty_row_if : Bool → List (List Val)
empty_row_if true = [] ∷ []
empty_row_if false = []

-- The values of a match at the places.
abbrev pub kept_of : List ℕ → Assignment → List Val
kept_of kept found = map (at found.vals) kept

-- The match has a value at each of the places.
abbrev pub HasPlaces : List ℕ → Assignment → Type 0
HasPlaces kept found = (k : ℕ) → Contains kept k → k < length found.vals

-- Each match has a value at each of the places.
abbrev pub HavePlaces : List Assignment → List ℕ → Type 0
HavePlaces found kept = (one : Assignment) → Contains found one → HasPlaces kept one

abbrev pub point_cmp : Point → Point → Ordering
point_cmp = (point_ord.ghosts).cmp

-- The point is in the set.
abbrev pub IsSeen : BTreeSet Point → Point → Type 0
IsSeen seen point = contains point_cmp seen point ≡ true
