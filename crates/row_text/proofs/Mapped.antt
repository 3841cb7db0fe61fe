-- Values that are ordered by their rows: what sorting and dropping doubles leaves, by the rows.
use Rattle.std.proofs.Common.{◌≡◌, ◌↔◌, ℕ, List, [], ◌∷◌, map, Bool, sym, ◌∙◌, subst}
use Rattle.std.specs.Prelude.{Contains}
use Rattle.std.specs.List.{AllByRecursion, dedup}
use Rattle.std.specs.List.Sorted.{IsPermutation, IsSorted, IsStrictlySortedBy}
use Rattle.std.specs.Cmp.{on_equiv, on_total}
use Rattle.std.specs.declared.cmp.Ordering.TheVariants.{Less}
use Rattle.std.proofs.lemmas.List.Kept.{Any-dedup, Contains-from_dedup, IsStrictlySortedBy-dedup}
use Rattle.std.proofs.lemmas.List.Sorted.{Contains-permutation, IsPermutation-sym}
use Rattle.row_text.specs.RowText.{row_cmp, row_eq}
use Rattle.lists.proofs.Orders.{rows_equiv, rows_same_equal, rows_ties, rows_total}
use Rattle.lists.proofs.Members.{contains_map, contains_mapped}

module _ {X : Type 0} (row : X → List (List ℕ)) where
  above : (x : X) (xs : List X) → AllByRecursion (λ y. row_cmp (row x) (row y) ≡ Less) xs → AllByRecursion (λ y. row_cmp (row x) y ≡ Less) (map row xs)
  above x [] all = tt
  above x (y ∷ xs) all = (all.0, above x xs all.1)

  mapped : (xs : List X) → IsStrictlySortedBy (λ x y. row_cmp (row x) (row y)) xs → IsStrictlySortedBy row_cmp (map row xs)
  unfolding IsStrictlySortedBy
  mapped [] s = tt
  mapped (x ∷ xs) s = (above x xs s.0, mapped xs s.1)

  abbrev by_row : X → X → Bool
  by_row x y = row_eq (row x) (row y)

  pub ascends-mapped : (xs : List X) → IsSorted (λ x y. row_cmp (row x) (row y)) xs → IsStrictlySortedBy row_cmp (map row (dedup by_row xs))
  ascends-mapped xs s = mapped (dedup by_row xs) (IsStrictlySortedBy-dedup (on_total row rows_total) (λ x y. rows_ties (row x) (row y)) xs s)

  pub same-mapped : (xs ys : List X) → IsPermutation xs ys → (one : List (List ℕ)) → Contains (map row (dedup by_row ys)) one ↔ Contains (map row xs) one
  same-mapped xs ys moved one = (
    (λ c.
        let (x, among, e) = contains_mapped row (dedup by_row ys) one c in
        subst (Contains (map row xs)) e (contains_map row xs x (Contains-permutation ys xs x (IsPermutation-sym xs ys moved) (Contains-from_dedup by_row ys x among)))),
    (λ c.
        let (x, among, e) = contains_mapped row xs one c in
        let kept = Any-dedup (on_equiv row rows_equiv) ys x (Contains-permutation xs ys x moved among) in
        subst (Contains (map row (dedup by_row ys))) (sym (rows_same_equal (row x) (row kept.1) kept.4) ∙ e) (contains_map row (dedup by_row ys) kept.1 (kept.0, kept.2, kept.3))),
  )
