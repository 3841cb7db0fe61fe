-- What exposures read of methods: the relation and the input places.
use Rattle.std.specs.Prelude.{◌≡◌, ℕ, List, Contains, map, slice_get, Some}
use Rattle.meaning.specs.declared.types.Method.{Method}
use Rattle.meaning.specs.Search.{AreDistinct}
use Rattle.accessible_copy.specs.declared.ways.Way.{Way}
use Rattle.accessible_copy.specs.Methods.{methods_of}

abbrev pub way_of : Method → Way
way_of method = record { rel = method.rel; inputs = method.inputs }

abbrev pub ways_of : List Method → List Way
ways_of methods = map way_of methods

-- The list of each relation has exactly the numbers of its ways, each once.
pub record IsWayIndex (ways : List Way) (index : List (List ℕ)) : Type 0 where
  pub each : (rel number : ℕ) → Contains (methods_of index rel) number →
      (way : Way) × (slice_get ways number ≡ Some way) × (way.rel ≡ rel)
  pub all : (number : ℕ) (way : Way) → slice_get ways number ≡ Some way → Contains (methods_of index way.rel) number
  pub once : (rel : ℕ) → AreDistinct (methods_of index rel)
