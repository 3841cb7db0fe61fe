-- The text of rows, as databases export it: a header, and each row once, in ascending order.
use Rattle.std.specs.Prelude.{◌≡◌, ◌↔◌, ◌++◌, ℕ, Bool, List, Contains, flat_map, nat_eq}
use Rattle.std.specs.Ordering.{nat_cmp}
use Rattle.std.specs.Cmp.Lexicographic.{pointwise, slice_cmp}
use Rattle.std.specs.List.Sorted.{IsStrictlySortedBy}
use Rattle.std.specs.declared.cmp.Ordering.{Ordering}
use Rattle.csv.specs.Writing.{default_writer, row_text}

-- rows are compared column by column, each column by its bytes
abbrev pub row_cmp : List (List ℕ) → List (List ℕ) → Ordering
row_cmp = slice_cmp (slice_cmp nat_cmp)

abbrev pub row_eq : List (List ℕ) → List (List ℕ) → Bool
row_eq = pointwise (pointwise nat_eq)

-- the lines of the names and of these rows, in this order
abbrev pub csv_rows : List (List ℕ) → List (List (List ℕ)) → List ℕ
csv_rows names rows = row_text default_writer names ++ flat_map (row_text default_writer) rows

-- the text has a line for the names and then, ascending, one for each row of which `IsRow` holds
pub record IsRowText (names : List (List ℕ)) (IsRow : List (List ℕ) → Type 0) (text : List ℕ) : Type 0 where
  pub rows : List (List (List ℕ))
  pub ascends : IsStrictlySortedBy row_cmp rows
  pub members : (row : List (List ℕ)) → Contains rows row ↔ IsRow row
  pub lines : text ≡ csv_rows names rows
