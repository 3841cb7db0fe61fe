-- Names of relations and methods, and lists without repetition.
use Rattle.std.specs.Prelude.{◌≡◌, ◌≢◌, ℕ, List, Option, map, slice_get, Some, MatchOption}
use Rattle.meaning.specs.declared.types.Relation.{Relation}
use Rattle.meaning.specs.declared.types.Method.{Method}

-- the names of the relations, in order
abbrev pub relation_names : List Relation → List (List ℕ)
relation_names relations = map (λ relation. relation.name) relations

-- the names of the methods, in order
abbrev pub method_names : List Method → List (List ℕ)
method_names methods = map (λ method. method.name) methods

-- no member stands at two places
abbrev pub AllDiffer : {A : Type 0} → List A → Type 0
AllDiffer {A} members = (i j : ℕ) (member : A) → slice_get members i ≡ Some member → slice_get members j ≡ Some member → i ≡ j

-- Some gives a place of the name, and None comes exactly where no place has it
abbrev pub Finds : List (List ℕ) → List ℕ → Option ℕ → Type 0
Finds names name result = MatchOption result ((k : ℕ) → slice_get names k ≢ Some name) (λ n. slice_get names n ≡ Some name)
