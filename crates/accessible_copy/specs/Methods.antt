-- The methods of each relation.
use Rattle.std.specs.Prelude.{◌≡◌, ℕ, List, [], Contains, slice_get, slice_index_or, Some}
use Rattle.meaning.specs.declared.types.Method.{Method}
use Rattle.meaning.specs.Search.{AreDistinct}

-- The list of a relation, which is empty where there is none.
abbrev pub methods_of : List (List ℕ) → ℕ → List ℕ
methods_of index rel = slice_index_or index rel []

-- The list of each relation has exactly the numbers of its methods, each once.
pub record IsMethodIndex (methods : List Method) (index : List (List ℕ)) : Type 0 where
  pub each : (rel number : ℕ) → Contains (methods_of index rel) number →
      (method : Method) × (slice_get methods number ≡ Some method) × (method.rel ≡ rel)
  pub all : (number : ℕ) (method : Method) → slice_get methods number ≡ Some method →
      Contains (methods_of index method.rel) number
  pub once : (rel : ℕ) → AreDistinct (methods_of index rel)
