-- The widths of selects: each has as many items as the first, or the first that has not is the fault.
use Rattle.std.specs.Prelude.{◌≡◌, ◌≢◌, ◌<◌, ◌+◌, ℕ, List, [], ◌∷◌, Bool, true, false, Option, Some, None, Contains, length, map, nat_eq, slice_get, if◌then◌else◌}
use Rattle.std.specs.List.{filter}
use Rattle.pq_text.specs.declared.token.Token.{Token}
use Rattle.sql_select.specs.declared.piece.Piece.{Piece}
use Rattle.sql_select.specs.declared.piece.Piece.TheVariants as piece
use Rattle.sql_select.specs.declared.piece.RawSelect.{RawSelect}
use Rattle.sql_select.specs.Words.{piece_of}

-- Each select has as many items as the first.
abbrev pub AreAlikeWide : List RawSelect → Type 0
AreAlikeWide raws = (first raw : RawSelect) → slice_get raws 0 ≡ Some first → Contains raws raw →
    length raw.items ≡ length first.items

-- The first select that has another number of items than the first one has this number, which counts from 0.
pub record IsFirstOtherWide (raws : List RawSelect) (number : ℕ) : Type 0 where
  pub first : RawSelect
  pub raw : RawSelect
  pub at_first : slice_get raws 0 ≡ Some first
  pub at : slice_get raws number ≡ Some raw
  pub other : length raw.items ≢ length first.items
  pub before : (k : ℕ) (r : RawSelect) → k < number → slice_get raws k ≡ Some r → length r.items ≡ length first.items

abbrev pub is_select : Piece → Bool
is_select piece.Select = true
is_select _ = false

-- A select begins with this token, which is the word `select`.
abbrev pub begins_select : List ℕ → Token → Bool
begins_select bytes t = is_select (piece_of bytes t)

-- where the words `select` of a text begin, in order
abbrev pub select_offsets : List ℕ → List Token → List ℕ
select_offsets bytes tokens = map (λ t. t.start) (filter (begins_select bytes) tokens)

-- ---- the same, one select after another

-- the number of the first of these selects that has not so many items, counted on from n
abbrev pub other_from : ℕ → ℕ → List RawSelect → Option ℕ
other_from n width [] = None
other_from n width (raw ∷ raws) = if nat_eq (length raw.items) width then other_from (n + 1) width raws else Some n

abbrev pub other_wide : List RawSelect → Option ℕ
other_wide [] = None
other_wide (raw ∷ raws) = other_from 1 (length raw.items) raws
