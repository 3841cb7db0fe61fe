-- Membership and lists without doubles.
use Rattle.std.proofs.Common.{◌≡◌, ℕ, zero, suc, List, [], ◌∷◌, ◌++◌, Bool, true, false, cond, sym, subst, ⊎_elim, arith, Contains, take}
use Rattle.std.specs.List.{filter}
use Rattle.std.proofs.lemmas.List.Elements.{Contains-append_cases, Contains-append_left, Contains-push}
use Rattle.lists.proofs.Members.{contains_here, contains_there, contains_cases, contains_none}
use Rattle.meaning.specs.Search.{AreDistinct}

pub contains_else : {X : Type 0} (y : X) (xs : List X) (x : X) → (y ≡ x → ⊥) → Contains (y ∷ xs) x → Contains xs x
contains_else y xs x differ c = ⊎_elim (λ e. absurd (differ e)) (λ h. h) (contains_cases y xs x c)

pub distinct_append : {X : Type 0} (xs ys : List X) → AreDistinct xs → AreDistinct ys → ((x : X) → Contains xs x → Contains ys x → ⊥) → AreDistinct (xs ++ ys)
distinct_append [] ys first second apart = second
distinct_append (x ∷ xs) ys (new, first) second apart =
    ((λ c. ⊎_elim (λ h. new h) (λ h. apart x (contains_here x xs) h) (Contains-append_cases xs ys x c)), distinct_append xs ys first second (λ y c d. apart y (contains_there x xs y c) d))

pub distinct_push : {X : Type 0} (xs : List X) (x : X) → AreDistinct xs → (Contains xs x → ⊥) → AreDistinct (xs ++ x ∷ [])
distinct_push xs x first new = distinct_append xs (x ∷ []) first ((λ c. contains_none x c), tt) (λ y c d. ⊎_elim (λ e. new (subst (λ z. Contains xs z) (sym e) c)) (λ h. contains_none y h) (contains_cases x [] y d))

in_take : {X : Type 0} (xs : List X) (n : ℕ) (x : X) → Contains (take n xs) x → Contains xs x
in_take xs zero x c = absurd (omega arith)
in_take [] (suc n) x c = absurd (omega arith)
in_take (y ∷ xs) (suc n) x c = ⊎_elim (λ e. subst (λ z. Contains (y ∷ xs) z) e (contains_here y xs)) (λ h. contains_there y xs x (in_take xs n x h)) (contains_cases y (take n xs) x c)

pub distinct_take : {X : Type 0} (xs : List X) (n : ℕ) → AreDistinct xs → AreDistinct (take n xs)
distinct_take xs zero distinct = tt
distinct_take [] (suc n) distinct = tt
distinct_take (x ∷ xs) (suc n) (new, distinct) = ((λ c. new (in_take xs n x c)), distinct_take xs n distinct)

pub distinct_parts : {X : Type 0} (xs : List X) (x : X) → AreDistinct (xs ++ x ∷ []) → AreDistinct xs × (Contains xs x → ⊥)
distinct_parts [] x once = (tt, λ c. contains_none x c)
distinct_parts (y ∷ xs) x (new, once) =
    let (rest, last) = distinct_parts xs x once in (
      ((λ c. new (Contains-append_left xs (x ∷ []) y c)), rest),
      λ c. ⊎_elim (λ e. new (subst (Contains (xs ++ x ∷ [])) (sym e) (Contains-push xs x))) last (contains_cases y xs x c),
    )

-- the members that pass a test
pub in_filter : {X : Type 0} (p : X → Bool) (xs : List X) (x : X) → Contains (filter p xs) x → Contains xs x
in_filter p [] x c = c
in_filter p (y ∷ xs) x c = by (p y) (in_filter p xs x) c
  where
    by : (t : Bool) → (Contains (filter p xs) x → Contains xs x) → Contains (cond t (y ∷ filter p xs) (filter p xs)) x → Contains (y ∷ xs) x
    by true more c = ⊎_elim (λ e. subst (Contains (y ∷ xs)) e (contains_here y xs)) (λ h. contains_there y xs x (more h)) (contains_cases y (filter p xs) x c)
    by false more c = contains_there y xs x (more c)

pub distinct_filter : {X : Type 0} (p : X → Bool) (xs : List X) → AreDistinct xs → AreDistinct (filter p xs)
distinct_filter p [] once = tt
distinct_filter p (x ∷ xs) (new, once) = by (p x) (distinct_filter p xs once)
  where
    by : (t : Bool) → AreDistinct (filter p xs) → AreDistinct (cond t (x ∷ filter p xs) (filter p xs))
    by true rest = ((λ c. new (in_filter p xs x c)), rest)
    by false rest = rest
