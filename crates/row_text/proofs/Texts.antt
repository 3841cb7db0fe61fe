-- The text of the rows of a predicate is one, and predicates that agree on each row have the same.
use Rattle.std.proofs.Common.{◌≡◌, ◌↔◌, ◌∙◌, sym, ap, ℕ, List}
use Rattle.row_text.specs.RowText.{IsRowText, csv_rows}
use Rattle.row_text.proofs.Orders.{ascending_unique}

pub IsRowText-alike : (names : List (List ℕ)) (P Q : List (List ℕ) → Type 0) (text : List ℕ)
    → ((row : List (List ℕ)) → P row ↔ Q row) → IsRowText names P text → IsRowText names Q text
IsRowText-alike names P Q text same is = record {
  rows = is.rows;
  ascends = is.ascends;
  members = λ row. ((λ c. (same row).0 ((is.members row).0 c)), (λ q. (is.members row).1 ((same row).1 q)));
  lines = is.lines;
}

pub IsRowText-unique : (names : List (List ℕ)) (P Q : List (List ℕ) → Type 0) (text other : List ℕ)
    → ((row : List (List ℕ)) → P row ↔ Q row) → IsRowText names P text → IsRowText names Q other → text ≡ other
IsRowText-unique names P Q text other same is was =
    let one = ascending_unique is.rows was.rows is.ascends was.ascends (λ row. (
      (λ c. (was.members row).1 ((same row).0 ((is.members row).0 c))),
      (λ c. (is.members row).1 ((same row).1 ((was.members row).0 c))),
    )) in
    is.lines ∙ ap (csv_rows names) one ∙ sym was.lines
