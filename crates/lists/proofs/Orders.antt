-- Texts that are the same, and the order of rows of texts, in which rows that tie are the same. Crates above cite these lemmas.
use Rattle.std.proofs.Common.{◌≡◌, ◌∙◌, ℕ, suc, List, Some, Bool, true, refl, ap, slice_get, nat_eq, arith}
use Rattle.std.specs.List.Sorted.{IsStrictlySortedBy}
use Rattle.std.specs.Ordering.{nat_cmp, is_eq, eq_by_cmp, ordering_then}
use Rattle.std.specs.Cmp.{IsTotalOrder, IsEquivalence}
use Rattle.std.specs.Cmp.Lexicographic.{slice_cmp, pointwise, bytes_decides, texts_ties, lists_ties}
use Rattle.std.specs.declared.cmp.Ordering.{Ordering}
use Rattle.std.specs.declared.cmp.Ordering.TheVariants.{Less, Equal, Greater}
use Rattle.std.proofs.lemmas.Cmp.{lists_total, lists_equiv, nat_list_cmp_total, nat_list_eq_equiv}
use Rattle.std.proofs.lemmas.Map.Keys.{Less-from_sorted}
use Rattle.std.proofs.lemmas.Option.{slice_get_within, get_or_from_slice_get}
use Rattle.std.proofs.lemmas.Slice.Eq.{slice_eq-Decides}

pub text_is : (a b : List ℕ) → pointwise nat_eq a b ≡ true → a ≡ b
text_is a b same = (bytes_decides a b).0 same

-- by values, and values by bytes
abbrev order : List (List ℕ) → List (List ℕ) → Ordering
order = slice_cmp (slice_cmp nat_cmp)

abbrev same : List (List ℕ) → List (List ℕ) → Bool
same = pointwise (pointwise nat_eq)

pub rows_total : IsTotalOrder order
rows_total = lists_total nat_list_cmp_total

pub rows_equiv : IsEquivalence same
rows_equiv = lists_equiv nat_list_eq_equiv

pub rows_ties : (x y : List (List ℕ)) → same x y ≡ eq_by_cmp order x y
rows_ties = lists_ties (slice_cmp nat_cmp) texts_ties

pub rows_same_equal : (x y : List (List ℕ)) → same x y ≡ true → x ≡ y
rows_same_equal x y e = (slice_eq-Decides bytes_decides x y (same x y) refl).0 e

pub rows_equal : (x y : List (List ℕ)) → order x y ≡ Equal → x ≡ y
rows_equal x y e = rows_same_equal x y (rows_ties x y ∙ ap is_eq e)

-- neighbours rise
pub adjacent : {K : Type 0} (R : K → K → Ordering) (xs : List K) (i : ℕ) (a b : K) → IsStrictlySortedBy R xs
    → slice_get xs i ≡ Some a → slice_get xs (suc i) ≡ Some b → R a b ≡ Less
adjacent R xs i a b s e f =
    let less = Less-from_sorted R xs i (suc i) a s (omega arith) (slice_get_within xs (suc i) b f) in
    rw (get_or_from_slice_get xs i a a e, get_or_from_slice_get xs (suc i) b a f) at less

-- a second order that ties
pub then_equal : (o : Ordering) → ordering_then o Equal ≡ o
then_equal Less = refl
then_equal Equal = refl
then_equal Greater = refl
