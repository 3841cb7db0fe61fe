-- Members at the same places of lists: one more in each, and all of them.
use Rattle.std.proofs.Common.{◌≡◌, ⊎_elim, ℕ, suc, ◌<◌, ◌≤◌, List, [], ◌∷◌, ◌++◌, length, length-append, Some, refl, sym, ◌∙◌, ap, subst, append_assoc, arith}
use Rattle.std.specs.Prelude.{slice_get}
use Rattle.std.specs.List.{AllZip}
use Rattle.std.proofs.lemmas.Bool.{cases_lt}
use Rattle.std.proofs.lemmas.List.{append-nil}
use Rattle.std.proofs.lemmas.Option.{slice_get_within}
use Rattle.lists.proofs.Members.{got_before, got_below, got_push, some_injective}
use Rattle.lists.proofs.Places.{got_seam}
use Rattle.plan_batches.specs.Each.{Both, Each}

-- a place in a list with one more
by_place : {X : Type 0} (xs : List X) (x y : X) (k n : ℕ) → n ≡ length xs → slice_get (xs ++ x ∷ []) k ≡ Some y → n ≤ k → (k ≡ n) × (x ≡ y)
by_place xs x y k n long at over =
    let within = slice_get_within (xs ++ x ∷ []) k y at in
    let more = length-append xs (x ∷ []) in
    let one : length (x ∷ []) ≡ 1 = omega arith in
    let here : k ≡ length xs = omega (arith, within, more, one, over, long) in
    (omega (arith, here, long), some_injective x y (sym (got_push xs x) ∙ ap (slice_get (xs ++ x ∷ [])) (sym here) ∙ at))

earlier : {X : Type 0} (xs : List X) (x y : X) (k n : ℕ) → n ≡ length xs → slice_get (xs ++ x ∷ []) k ≡ Some y → k < n → slice_get xs k ≡ Some y
earlier xs x y k n long at under = sym (got_before xs (x ∷ []) k (omega (arith, under, long))) ∙ at

pub both_push : {A B : Type 0} (R : A → B → Type 0) (xs : List A) (ys : List B) (x : A) (y : B) → Both R xs ys → R x y
    → Both R (xs ++ x ∷ []) (ys ++ y ∷ [])
both_push {A} {B} R xs ys x y b r = record {
  long = let long = b.long in omega (arith, long, length-append xs (x ∷ []), length-append ys (y ∷ []));
  at = λ k a c is its. ⊎_elim
      (λ l. b.at k a c (earlier xs x a k (length xs) refl is l) (earlier ys y c k (length xs) (sym b.long) its l))
      (λ l. subst (λ (z : B). R a z) (by_place ys y c k (length xs) (sym b.long) its l).1
      (subst (λ (z : A). R z y) (by_place xs x a k (length xs) refl is l).1 r))
      (cases_lt k (length xs));
}

pub each_push : {A B C : Type 0} (R : A → B → C → Type 0) (xs : List A) (ys : List B) (zs : List C) (x : A) (y : B) (z : C) → Each R xs ys zs → R x y z
    → Each R (xs ++ x ∷ []) (ys ++ y ∷ []) (zs ++ z ∷ [])
each_push {A} {B} {C} R xs ys zs x y z e r = record {
  second = let long = e.second in omega (arith, long, length-append xs (x ∷ []), length-append ys (y ∷ []));
  third = let long = e.third in omega (arith, long, length-append xs (x ∷ []), length-append zs (z ∷ []));
  at = λ k a b c is its at. ⊎_elim
      (λ l. e.at k a b c (earlier xs x a k (length xs) refl is l) (earlier ys y b k (length xs) (sym e.second) its l)
      (earlier zs z c k (length xs) (sym e.third) at l))
      (λ l. subst (λ (w : C). R a b w) (by_place zs z c k (length xs) (sym e.third) at l).1
      (subst (λ (w : B). R a w z) (by_place ys y b k (length xs) (sym e.second) its l).1
      (subst (λ (w : A). R w y z) (by_place xs x a k (length xs) refl is l).1 r)))
      (cases_lt k (length xs));
}

pub both_none : {A B : Type 0} (R : A → B → Type 0) → Both R [] []
both_none R = record { long = refl; at = λ k a b is its. absurd (nothing k a is) }
  where
    nothing : {X : Type 0} (k : ℕ) (x : X) → slice_get [] k ≡ Some x → ⊥
    nothing k x is = let within = slice_get_within [] k x is in omega (arith, within)

pub each_none : {A B C : Type 0} (R : A → B → C → Type 0) → Each R [] [] []
each_none R = record { second = refl; third = refl; at = λ k a b c is its at. absurd (nothing k a is) }
  where
    nothing : {X : Type 0} (k : ℕ) (x : X) → slice_get [] k ≡ Some x → ⊥
    nothing k x is = let within = slice_get_within [] k x is in omega (arith, within)

-- the pairs of two lists in the words of std
pub zipped : {A B : Type 0} (R : A → B → Type 0) (xs : List A) (ys : List B) → Both R xs ys → AllZip R xs ys
zipped R [] [] b = tt
zipped R [] (y ∷ ys) b = let long = b.long in absurd (omega (arith, long))
zipped R (x ∷ xs) [] b = let long = b.long in absurd (omega (arith, long))
zipped R (x ∷ xs) (y ∷ ys) b =
    (b.at 0 x y refl refl, zipped R xs ys (record { long = let long = b.long in omega (arith, long); at = λ k a c is its. b.at (suc k) a c is its }))

-- the partner of a member
pub partner : {A B : Type 0} (R : A → B → Type 0) (xs : List A) (ys : List B) → Both R xs ys → (k : ℕ) (y : B) → slice_get ys k ≡ Some y
    → (x : A) × (slice_get xs k ≡ Some x) × R x y
partner R xs ys b k y at =
    let within = slice_get_within ys k y at in
    let long = b.long in
    let (x, is) = got_below xs k (omega (arith, within, long)) in
    (x, is, b.at k x y is at)

-- ---- a list that is gone through from its front

module _ {X : Type 0} (xs items all : List X) (parts : xs ++ items ≡ all) where
  module _ (x : X) (ys : List X) (is : items ≡ x ∷ ys) where
    seam : xs ++ x ∷ ys ≡ all
    seam = ap (λ (l : List X). xs ++ l) (sym is) ∙ parts

    pub at_seam : slice_get all (length xs) ≡ Some x
    at_seam = ap (λ (l : List X). slice_get l (length xs)) (sym seam) ∙ got_seam xs x ys

    pub parts_on : (xs ++ x ∷ []) ++ ys ≡ all
    parts_on = append_assoc xs (x ∷ []) ys ∙ seam

    pub under_seam : length xs < length all
    under_seam = slice_get_within all (length xs) x at_seam

  pub parts_end : items ≡ [] → xs ≡ all
  parts_end none = sym (append-nil xs) ∙ ap (λ (l : List X). xs ++ l) (sym none) ∙ parts
