-- The labels that are not among others.
use Rattle.std.proofs.Common.{◌≡◌, ◌<◌, ◌≤◌, ◌+◌, ◌∙◌, sym, ap, subst, ℕ, zero, suc, List, [], ◌∷◌, ◌++◌, Bool, true, false, not, cond, length, get_or, filter, take, refl, nat_eq, ⊎_elim, arith}
use Rattle.std.specs.Prelude.{Contains, Result, Ok, Err, is_err}
use Rattle.std.specs.List.Sorted.{IsStrictlyIncreasing, IsBinarySearchResult}
use Rattle.std.specs.Ordering.{nat_cmp}
use Rattle.std.proofs.lemmas.Bool.{cases_Bool, cases_lt, eqb-true, eqb-false}
use Rattle.std.proofs.lemmas.List.Sorted.{searched}
use Rattle.std.proofs.lemmas.Option.{get_or_from_slice_get}
use Rattle.std.proofs.lemmas.List.{take_more, take_all, append-nil}
use Rattle.std.proofs.lemmas.List.Elements.{Contains-get_or, filter-append}
use Rattle.lists.proofs.Members.{contains_there, contains_filter, filter_from}
use Rattle.lists.proofs.Places.{got_contained}
use Rattle.no_plan_witness.proofs.Looking.{labels_rise}

pub has_label : List ℕ → ℕ → Bool
has_label [] k = false
has_label (label ∷ labels) k = cond (nat_eq label k) true (has_label labels k)

pub label_there : (labels : List ℕ) (k : ℕ) → has_label labels k ≡ true → Contains labels k
unfolding has_label
label_there [] k e = absurd (cc)
label_there (label ∷ labels) k e = ⊎_elim
    (λ (same : nat_eq label k ≡ true). (0, omega arith, eqb-true label k same))
    (λ (other : nat_eq label k ≡ false). contains_there label labels k (label_there labels k (rw other at e)))
    (cases_Bool (nat_eq label k))

pub label_not_there : (labels : List ℕ) (k : ℕ) → has_label labels k ≡ false → Contains labels k → ⊥
unfolding has_label
label_not_there [] k e c = absurd (omega arith)
label_not_there (label ∷ labels) k e (zero, l, at) = ⊎_elim
    (λ (same : nat_eq label k ≡ true). let no : true ≡ false = rw same at e in cc)
    (λ (other : nat_eq label k ≡ false). eqb-false label k other at)
    (cases_Bool (nat_eq label k))
label_not_there (label ∷ labels) k e (suc i, l, at) = ⊎_elim
    (λ (same : nat_eq label k ≡ true). let no : true ≡ false = rw same at e in cc)
    (λ (other : nat_eq label k ≡ false). label_not_there labels k (rw other at e) (i, omega arith, at))
    (cases_Bool (nat_eq label k))

abbrev pub is_other : List ℕ → ℕ → Bool
is_other integers k = not (has_label integers k)

-- what a bisection of labels that ascend says
pub searched_other : (integers : List ℕ) (k : ℕ) (r : Result ℕ ℕ) → IsStrictlyIncreasing integers → IsBinarySearchResult (λ y. nat_cmp y k) integers r → is_err r ≡ is_other integers k
searched_other integers k (Ok i) ascend found =
    let (l, at) = searched integers k (Ok i) found (labels_rise integers ascend) in
    ⊎_elim
    (λ (yes : has_label integers k ≡ true). rw yes refl)
    (λ (no : has_label integers k ≡ false). absurd (label_not_there integers k no (subst (Contains integers) at (Contains-get_or integers i 0 l))))
    (cases_Bool (has_label integers k))
searched_other integers k (Err i) ascend found =
    let (l, below, above) = searched integers k (Err i) found (labels_rise integers ascend) in
    ⊎_elim
    (λ (yes : has_label integers k ≡ true). absurd (let (j, within, at) = label_there integers k yes in ⊎_elim
    (λ (less : j < i). let low = below j less in let same : get_or integers j 0 ≡ k = get_or_from_slice_get integers j k 0 (got_contained integers k (j, within, at)) in omega arith)
    (λ (more : i ≤ j). let high = above j more within in let same : get_or integers j 0 ≡ k = get_or_from_slice_get integers j k 0 (got_contained integers k (j, within, at)) in omega arith)
    (cases_lt j i)))
    (λ (no : has_label integers k ≡ false). rw no refl)
    (cases_Bool (has_label integers k))

-- one label more, which is among the others or is not
more_filtered : (test : ℕ → Bool) (labels others : List ℕ) (i : ℕ) → i < length labels → others ≡ filter test (take i labels) → filter test (take (i + 1) labels) ≡ others ++ filter test (get_or labels i 0 ∷ [])
more_filtered test labels others i l so_far =
    ap (filter test) (take_more labels i 0 l) ∙ filter-append test (take i labels) (get_or labels i 0 ∷ []) ∙ ap (λ o. o ++ filter test (get_or labels i 0 ∷ [])) (sym so_far)

pub one_taken : (test : ℕ → Bool) (labels others more : List ℕ) (i : ℕ) → i < length labels → others ≡ filter test (take i labels) → test (get_or labels i 0) ≡ true → more ≡ others ++ get_or labels i 0 ∷ [] → more ≡ filter test (take (i + 1) labels)
one_taken test labels others more i l so_far passes is =
    let one : filter test (get_or labels i 0 ∷ []) ≡ get_or labels i 0 ∷ [] = rw passes refl in
    is ∙ sym (more_filtered test labels others i l so_far ∙ ap (λ o. others ++ o) one)

pub one_left_out : (test : ℕ → Bool) (labels others more : List ℕ) (i : ℕ) → i < length labels → others ≡ filter test (take i labels) → test (get_or labels i 0) ≡ false → more ≡ others → more ≡ filter test (take (i + 1) labels)
one_left_out test labels others more i l so_far fails is =
    let none : filter test (get_or labels i 0 ∷ []) ≡ [] = rw fails refl in
    is ∙ sym (more_filtered test labels others i l so_far ∙ ap (λ o. others ++ o) none ∙ append-nil others)

-- the others of all labels
pub all_taken : (test : ℕ → Bool) (labels others : List ℕ) (i : ℕ) → length labels ≤ i → others ≡ filter test (take i labels) → others ≡ filter test labels
all_taken test labels others i many so_far = so_far ∙ ap (filter test) (take_all i labels many)

pub other_within : (integers labels : List ℕ) (k : ℕ) → Contains (filter (is_other integers) labels) k → Contains labels k × (Contains integers k → ⊥)
other_within integers labels k c =
    let (there, passes) = filter_from (is_other integers) labels k c in (
      there,
      λ among. ⊎_elim
          (λ (has : has_label integers k ≡ true). let no : is_other integers k ≡ false = ap not has in cc)
          (λ (no : has_label integers k ≡ false). label_not_there integers k no among)
          (cases_Bool (has_label integers k)),
    )

pub other_taken : (integers labels : List ℕ) (k : ℕ) → Contains labels k → (Contains integers k → ⊥) → Contains (filter (is_other integers) labels) k
other_taken integers labels k c apart = contains_filter (is_other integers) labels k c (⊎_elim
    (λ (has : has_label integers k ≡ true). absurd (apart (label_there integers k has)))
    (λ (no : has_label integers k ≡ false). rw no refl)
    (cases_Bool (has_label integers k)))
