-- The bytes that a row begins with.
use Rattle.std.specs.Prelude.{◌≡◌, ◌<◌, ℕ, List, [], ◌∷◌, slice_index}
use Rattle.std.specs.Int.{from_be_bytes, w64}

-- the first value, if any
abbrev pub first_of : List (List ℕ) → List ℕ
first_of [] = []
first_of (value ∷ values) = value

-- the first eight bytes of a value, with zeros behind a shorter one
abbrev pub start_of : List ℕ → List ℕ
start_of bytes = slice_index bytes 0 ∷ slice_index bytes 1 ∷ slice_index bytes 2 ∷ slice_index bytes 3
    ∷ slice_index bytes 4 ∷ slice_index bytes 5 ∷ slice_index bytes 6 ∷ slice_index bytes 7 ∷ []

abbrev pub row_start : List (List ℕ) → List ℕ
row_start row = start_of (first_of row)

-- The number is that of the first eight bytes of the value, of which the first counts most.
pub record IsStart (start : ℕ) (value : List ℕ) : Type 0 where
  pub number : start ≡ from_be_bytes w64 (start_of value)
  pub bytes : (place : ℕ) → slice_index (start_of value) place < 256
