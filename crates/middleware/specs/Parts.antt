-- The rows of an answer that have a key's values at some positions.
use Rattle.std.specs.Prelude.{◌≡◌, ◌<◌, ◌≤◌, ◌+◌, ℕ, List, [], ◌∷◌, Some, drop, length, map, slice_get, slice_index, slice_index_or}
use Rattle.std.specs.List.{filter}
use Rattle.source_trait.specs.Asking.{RowList}
use Rattle.row_text.specs.RowText.{row_eq}
use Rattle.middleware.specs.Joining.{text_or}

-- the values at the positions; the empty text where there is none
abbrev pub key_of : List ℕ → List (List ℕ) → List (List ℕ)
key_of positions row = map (λ p. text_or (slice_get row p)) positions

-- the rows of the answer that have the key, in order
abbrev pub part_of : List ℕ → RowList → List (List ℕ) → RowList
part_of positions answer key = filter (λ row. row_eq (key_of positions row) key) answer

-- The part stands in a chain of the rows, whose first place is this one, from a number on: behind each row's place the list leads to
-- that of the next one, and behind the last one to no row.
abbrev pub IsChain : RowList → List ℕ → ℕ → ℕ → RowList → Type 0
IsChain rows next low place [] = length rows ≤ place
IsChain rows next low place (row ∷ part) =
    (low ≤ place) × (place < length rows) × (row ≡ slice_index_or rows place []) × IsChain rows next (place + 1) (slice_index next place) part

-- For each key, the rows of the answer from a place on that have it stand in a chain.
pub record HaveChains (positions : List ℕ) (answer keys : RowList) (place : ℕ) (heads next : List ℕ) : Type 0 where
  pub heads_long : length heads ≡ length keys
  pub next_long : length next ≡ length answer
  pub each : (k : ℕ) (key : List (List ℕ)) → slice_get keys k ≡ Some key
      → IsChain answer next place (slice_index heads k) (part_of positions (drop place answer) key)
