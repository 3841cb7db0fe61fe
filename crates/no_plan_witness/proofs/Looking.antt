-- The text of a label is found at the label's place.
use Rattle.std.proofs.Common.{◌≡◌, ◌<◌, ◌≤◌, ◌∙◌, sym, ap, subst, ℕ, zero, suc, List, [], ◌∷◌, length, get_or, true, false, refl, ⊎_elim, arith, nat_eq}
use Rattle.std.specs.Prelude.{Ok, Err}
use Rattle.std.specs.List.Sorted.{IsStrictlyIncreasing, IsStrictlySortedBy, IsBinarySearchResult}
use Rattle.std.specs.Ordering.{nat_cmp}
use Rattle.std.proofs.lemmas.Bool.{cases_Bool, cases_lt, eqb-true, eqb-false}
use Rattle.std.proofs.lemmas.List.Sorted.{searched}
use Rattle.std.proofs.lemmas.Map.Keys.{sorted_from_strictly_increasing, below_from_sorted, sorted_tail}
use Rattle.no_plan_witness.specs.Texts.{text_of}

-- the text at the place of a label, where the labels ascend
text_at : (labels : List ℕ) (texts : List (List ℕ)) (other : List ℕ) (i k : ℕ) (d : List ℕ) → IsStrictlySortedBy nat_cmp labels → i < length labels → get_or labels i 0 ≡ k → length texts ≡ length labels → text_of labels texts other k ≡ get_or texts i d
text_at [] texts other i k d sorted l at many = absurd (omega arith)
text_at (label ∷ labels) [] other i k d sorted l at many = absurd (omega arith)
text_at (label ∷ labels) (text ∷ texts) other zero k d sorted l at many = ⊎_elim
    (λ (same : nat_eq label k ≡ true). rw same refl)
    (λ (apart : nat_eq label k ≡ false). absurd (eqb-false label k apart at))
    (cases_Bool (nat_eq label k))
text_at (label ∷ labels) (text ∷ texts) other (suc i) k d sorted l at many = ⊎_elim
    (λ (same : nat_eq label k ≡ true). absurd (let e : label ≡ k = eqb-true label k same in let below : label < get_or labels i 0 = below_from_sorted (label ∷ labels) 0 (suc i) 0 sorted (omega arith) l in omega arith))
    (λ (apart : nat_eq label k ≡ false). rw apart (text_at labels texts other i k d (sorted_tail nat_cmp label labels sorted) (omega arith) at (omega arith)))
    (cases_Bool (nat_eq label k))

pub text_found : (labels : List ℕ) (texts : List (List ℕ)) (other : List ℕ) (i k : ℕ) (d : List ℕ) → IsStrictlyIncreasing labels → i < length labels → get_or labels i 0 ≡ k → length texts ≡ length labels → text_of labels texts other k ≡ get_or texts i d
text_found labels texts other i k d ascend l at many = text_at labels texts other i k d (sorted_from_strictly_increasing labels ascend) l at many

-- the other text, where the label is not there
pub text_absent : (labels : List ℕ) (texts : List (List ℕ)) (other : List ℕ) (k : ℕ) → ((i : ℕ) → i < length labels → get_or labels i 0 ≡ k → ⊥) → text_of labels texts other k ≡ other
text_absent [] texts other k none = refl
text_absent (label ∷ labels) [] other k none = refl
text_absent (label ∷ labels) (text ∷ texts) other k none = ⊎_elim
    (λ (same : nat_eq label k ≡ true). absurd (none 0 (omega arith) (eqb-true label k same)))
    (λ (apart : nat_eq label k ≡ false). rw apart (text_absent labels texts other k (λ i l e. none (suc i) (omega arith) e)))
    (cases_Bool (nat_eq label k))

-- later labels are not lower
pub labels_rise : (labels : List ℕ) → IsStrictlyIncreasing labels → (i j : ℕ) → i ≤ j → j < length labels → get_or labels i 0 ≤ get_or labels j 0
labels_rise labels ascend i j low l = ⊎_elim
    (λ (less : i < j). let below = below_from_sorted labels i j 0 (sorted_from_strictly_increasing labels ascend) less l in omega arith)
    (λ (more : j ≤ i). let same : i ≡ j = omega arith in let e : get_or labels i 0 ≡ get_or labels j 0 = ap (λ k. get_or labels k 0) same in omega arith)
    (cases_lt i j)

-- two places of one label are one
pub one_place : (labels : List ℕ) (i j : ℕ) → IsStrictlyIncreasing labels → i < length labels → j < length labels → get_or labels i 0 ≡ get_or labels j 0 → i ≡ j
one_place labels i j ascend l m e =
    let sorted = sorted_from_strictly_increasing labels ascend in
    ⊎_elim
    (λ (less : i < j). absurd (let below = below_from_sorted labels i j 0 sorted less m in omega arith))
    (λ (more : j ≤ i). ⊎_elim
    (λ (less : j < i). absurd (let below = below_from_sorted labels j i 0 sorted less l in omega arith))
    (λ (same : i ≤ j). omega arith)
    (cases_lt j i))
    (cases_lt i j)

-- what a bisection finds
pub text_hit : (items labels : List ℕ) (texts : List (List ℕ)) (other : List ℕ) (i k : ℕ) (t : List ℕ) → items ≡ labels → IsBinarySearchResult (λ y. nat_cmp y k) items (Ok i) → IsStrictlyIncreasing labels → length texts ≡ length labels → t ≡ get_or texts i t → t ≡ text_of labels texts other k
text_hit items labels texts other i k t same found ascend many is =
    let (l, at) = searched labels k (Ok i) (subst (λ l. IsBinarySearchResult (λ y. nat_cmp y k) l (Ok i)) same found) (labels_rise labels ascend) in
    is ∙ sym (text_found labels texts other i k t ascend l at many)

-- and what it misses
pub text_missed : (items labels : List ℕ) (texts : List (List ℕ)) (other : List ℕ) (i k : ℕ) → items ≡ labels → IsBinarySearchResult (λ y. nat_cmp y k) items (Err i) → IsStrictlyIncreasing labels → text_of labels texts other k ≡ other
text_missed items labels texts other i k same found ascend =
    let (l, below, above) = searched labels k (Err i) (subst (λ l. IsBinarySearchResult (λ y. nat_cmp y k) l (Err i)) same found) (labels_rise labels ascend) in
    text_absent labels texts other k (λ j within at. ⊎_elim
    (λ (less : j < i). let low = below j less in omega arith)
    (λ (more : i ≤ j). let high = above j more within in omega arith)
    (cases_lt j i))
