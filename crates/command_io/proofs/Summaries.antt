-- The text of one row, and the last row.
use Rattle.std.proofs.Common.{◌≡◌, ◌-◌, ◌≤◌, ◌∙◌, ℕ, suc, List, [], ◌∷◌, length, get_or, refl, ap, arith}
use Rattle.std.specs.Prelude.{Contains}
use Rattle.std.proofs.lemmas.List.{append-nil}
use Rattle.csv.specs.Writing.{default_writer, row_text}
use Rattle.lists.proofs.Members.{contains_here}
use Rattle.source_trait.specs.Asking.{RowList}
use Rattle.row_text.specs.RowText.{IsRowText, csv_rows}
use Rattle.command_io.specs.Reports.{last_line}

none_of : (rows : RowList) → ((row : List (List ℕ)) → Contains rows row → ⊥) → rows ≡ []
none_of [] none = refl
none_of (row ∷ rows) none = absurd (none row (contains_here row rows))

no_member : (row : List (List ℕ)) → Contains {X = List (List ℕ)} [] row → ⊥
no_member row (k, low, is) = omega (arith, low)

-- names without rows are one line
pub one_line : (names : List (List ℕ)) (text : List ℕ) → IsRowText names (Contains []) text → text ≡ row_text default_writer names
one_line names text is =
    let none : is.rows ≡ [] = none_of is.rows (λ row among. no_member row ((is.members row).0 among)) in
    is.lines ∙ ap (csv_rows names) none ∙ append-nil (row_text default_writer names)

pub last_is : (rows : RowList) (row : List (List ℕ)) → 1 ≤ length rows → row ≡ get_or rows (length rows - 1) [] → row_text default_writer row ≡ last_line rows
last_is [] row some is = absurd (omega (arith, some))
last_is (r ∷ []) row some is = ap (row_text default_writer) is
last_is (r ∷ s ∷ rows) row some is =
    let e : length (r ∷ s ∷ rows) - 1 ≡ suc (length (s ∷ rows) - 1) = omega arith in
    last_is (s ∷ rows) row (omega arith) (is ∙ ap (λ k. get_or (r ∷ s ∷ rows) k []) e)
