-- Rows in order: a strictly ascending list is fixed by its members.
use Rattle.std.proofs.Common.{◌≡◌, ◌↔◌, ℕ, List, [], ◌∷◌, inl, inr, refl, sym, ◌∙◌, ap, subst, arith}
use Rattle.std.specs.Prelude.{Contains}
use Rattle.std.specs.List.{AllByRecursion}
use Rattle.std.specs.List.Sorted.{IsStrictlySortedBy}
use Rattle.std.specs.Ordering.{ordering_reverse}
use Rattle.std.specs.declared.cmp.Ordering.{Ordering}
use Rattle.std.specs.declared.cmp.Ordering.TheVariants.{Less, Equal}
use Rattle.std.proofs.lemmas.Cmp.{tied_itself}
use Rattle.lists.proofs.Members.{contains_cases, contains_there, contains_none, all_member}
use Rattle.lists.proofs.Orders.{rows_total}
use Rattle.row_text.specs.RowText.{row_cmp}

not_both : (o p : Ordering) → p ≡ ordering_reverse o → o ≡ Less → p ≡ Less → ⊥
not_both o p r e f = let g : ordering_reverse Less ≡ Less = sym (ap ordering_reverse e) ∙ sym r ∙ f in cc

-- no row is below itself
pub not_itself : (x : List (List ℕ)) → row_cmp x x ≡ Less → ⊥
not_itself x e = let g : Less ≡ Equal = sym e ∙ tied_itself rows_total x in cc

heads_same : (x y : List (List ℕ)) (xs ys : List (List (List ℕ))) → AllByRecursion (λ z. row_cmp x z ≡ Less) xs → AllByRecursion (λ z. row_cmp y z ≡ Less) ys
    → Contains (y ∷ ys) x → Contains (x ∷ xs) y → x ≡ y
heads_same x y xs ys low high there back = elim (contains_cases y ys x there) [
  | inl here ↦ sym here
  | inr above ↦ elim (contains_cases x xs y back) [
    | inl here ↦ here
    | inr under ↦ absurd (not_both (row_cmp x y) (row_cmp y x) (rows_total.antisymm y x) (all_member (λ z. row_cmp x z ≡ Less) xs y low under) (all_member (λ z. row_cmp y z ≡ Less) ys x high above))
  ]
]

-- a member behind the head stands behind the head of the other list too
behind : (x y row : List (List ℕ)) (xs ys : List (List (List ℕ))) → x ≡ y → AllByRecursion (λ z. row_cmp x z ≡ Less) xs
    → Contains (y ∷ ys) row → Contains xs row → Contains ys row
behind x y row xs ys same low c among = elim (contains_cases y ys row c) [
  | inl here ↦ absurd (not_itself x (subst (λ z. row_cmp x z ≡ Less) (sym here ∙ sym same) (all_member (λ z. row_cmp x z ≡ Less) xs row low among)))
  | inr there ↦ there
]

pub ascending_unique : (first second : List (List (List ℕ))) → IsStrictlySortedBy row_cmp first → IsStrictlySortedBy row_cmp second
    → ((row : List (List ℕ)) → Contains first row ↔ Contains second row) → first ≡ second
unfolding IsStrictlySortedBy
ascending_unique [] [] s t same = refl
ascending_unique [] (y ∷ ys) s t same = absurd (contains_none y ((same y).1 (0, omega arith, refl)))
ascending_unique (x ∷ xs) [] s t same = absurd (contains_none x ((same x).0 (0, omega arith, refl)))
ascending_unique (x ∷ xs) (y ∷ ys) s t same =
    let heads = heads_same x y xs ys s.0 t.0 ((same x).0 (0, omega arith, refl)) ((same y).1 (0, omega arith, refl)) in
    let tails = ascending_unique xs ys s.1 t.1 (λ row. (
      (λ c. behind x y row xs ys heads s.0 ((same row).0 (contains_there x xs row c)) c),
      (λ c. behind y x row ys xs (sym heads) t.0 ((same row).1 (contains_there y ys row c)) c),
    )) in
    cc
