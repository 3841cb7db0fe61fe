-- Partial rows joined with the rows of answers.
use Rattle.std.specs.Prelude.{◌≡◌, ◌↔◌, ℕ, List, [], ◌∷◌, ◌++◌, Contains, length, map, flat_map, slice_get, slice_index_or, Option, Some, None, Bool, false, nat_eq, if◌then◌else◌}
use Rattle.std.specs.Cmp.Lexicographic.{pointwise}
use Rattle.meaning.specs.declared.types.Place.{Place}
use Rattle.meaning.specs.declared.types.Place.TheVariants.{Const, Col, New}
use Rattle.source_trait.specs.Asking.{RowList}

-- the value is there
abbrev pub is_at : Option (List ℕ) → List ℕ → Bool
is_at None value = false
is_at (Some found) value = pointwise nat_eq found value

-- the partial row followed by the values at the new places, where the other values agree
abbrev pub joined : List Place → List (List ℕ) → List (List ℕ) → Option (List (List ℕ))
joined [] [] row = Some row
joined [] (value ∷ values) row = None
joined (place ∷ places) [] row = None
joined (Const c ∷ places) (value ∷ values) row = if pointwise nat_eq value c then joined places values row else None
joined (Col k ∷ places) (value ∷ values) row = if is_at (slice_get row k) value then joined places values row else None
joined (New ∷ places) (value ∷ values) row = joined places values (row ++ value ∷ [])

-- the one member, or none
abbrev pub listed : {X : Type 0} → Option X → List X
listed None = []
listed (Some x) = x ∷ []

-- the rows to which a partial row grows by the rows of an answer
abbrev pub grown : List Place → RowList → List (List ℕ) → RowList
grown places answer row = flat_map (λ values. listed (joined places values row)) answer

-- the text, or the empty one
abbrev pub text_or : Option (List ℕ) → List ℕ
text_or None = []
text_or (Some text) = text

-- the value of an input place before the step, or the empty text
abbrev pub input_value_or : List (List ℕ) → Option Place → List ℕ
input_value_or row None = []
input_value_or row (Some (Const c)) = c
input_value_or row (Some (Col k)) = text_or (slice_get row k)
input_value_or row (Some New) = []

-- the values that a partial row has at the input positions
abbrev pub input_row_of : List Place → List ℕ → List (List ℕ) → List (List ℕ)
input_row_of places inputs row = map (λ p. input_value_or row (slice_get places p)) inputs

-- the answer to the request of a partial row is empty where it is none of the requests
abbrev pub OthersAreEmpty : List Place → List ℕ → RowList → RowList → (List (List ℕ) → RowList) → Type 0
OthersAreEmpty places inputs requests rows answer = (row : List (List ℕ)) → Contains rows row → (Contains requests (input_row_of places inputs row) → ⊥) → answer (input_row_of places inputs row) ≡ []

-- there are as many answers, and each has just the rows of the other one
pub record HaveSameRows (answers others : List RowList) : Type 0 where
  pub len : length others ≡ length answers
  pub each : (k : ℕ) (row : List (List ℕ)) → Contains (slice_index_or others k []) row ↔ Contains (slice_index_or answers k []) row

-- The partial rows grew to these rows by the answers to their requests, each in some order.
pub record AreJoined (places : List Place) (inputs : List ℕ) (requests : RowList) (answers : List RowList) (rows next : RowList) : Type 0 where
  pub ordered : List RowList
  pub same : HaveSameRows answers ordered
  pub joins : (answer : List (List ℕ) → RowList) → ordered ≡ map answer requests
      → next ≡ flat_map (λ row. grown places (answer (input_row_of places inputs row)) row) rows
