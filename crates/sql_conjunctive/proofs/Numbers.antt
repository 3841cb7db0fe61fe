-- What numbering by first occurrence gives.
use Rattle.std.proofs.Common.{◌≡◌, ◌≢◌, ◌⊎◌, ℕ, zero, suc, ◌<◌, ◌≤◌, ◌+◌, List, [], ◌∷◌, ◌++◌, length, max, ap, subst, sym, ◌∙◌, refl, inl, inr, ⊎_elim, arith, append_assoc, Bool, true, false}
use Rattle.std.specs.Prelude.{Contains, slice_get, Some, map, nat_eq, if◌then◌else◌}
use Rattle.std.proofs.lemmas.Bool.Decides.{nat_tests}
use Rattle.std.proofs.lemmas.List.{length_push, length-append, append-nil, map-append}
use Rattle.meaning.specs.declared.types.Term.{Term}
use Rattle.meaning.specs.declared.types.Term.TheVariants.{Var, Const}
use Rattle.meaning.specs.declared.types.Atom.{Atom}
use Rattle.sql_conjunctive.specs.Merging.{with_terms}
use Rattle.meaning.specs.Triggers.{terms_bound}
use Rattle.access_schema.specs.Invariant.{terms_of}
use Rattle.access_schema.proofs.Ordered.{OrderedFrom}
use Rattle.sql_conjunctive.specs.Numbering.{place_from, seen_with, order_in, order_through, number_in}
use Rattle.lists.proofs.Members.{contains_cases, some_injective}

-- one step of the search
place_cases : (n x : ℕ) (xs : List ℕ) (k : ℕ) → ((x ≡ k) × (place_from n (x ∷ xs) k ≡ n)) ⊎ ((x ≢ k) × (place_from n (x ∷ xs) k ≡ place_from (n + 1) xs k))
place_cases n x xs k = go (nat_eq x k) refl
  where
    go : (b : Bool) → nat_eq x k ≡ b → ((x ≡ k) × ((if b then n else place_from (n + 1) xs k) ≡ n)) ⊎ ((x ≢ k) × ((if b then n else place_from (n + 1) xs k) ≡ place_from (n + 1) xs k))
    go true e = inl (grind (arith, nat_tests), refl)
    go false e = inr ((λ same. grind (arith, nat_tests)), refl)

place_least : (n : ℕ) (xs : List ℕ) (k : ℕ) → n ≤ place_from n xs k
place_least n [] k = omega arith
place_least n (x ∷ xs) k = ⊎_elim (λ h. omega (arith, h.1)) (λ h. omega (arith, h.1, place_least (n + 1) xs k)) (place_cases n x xs k)

place_most : (n : ℕ) (xs : List ℕ) (k : ℕ) → place_from n xs k ≤ n + length xs
place_most n [] k = omega arith
place_most n (x ∷ xs) k = ⊎_elim (λ h. omega (arith, h.1)) (λ h. omega (arith, h.1, place_most (n + 1) xs k)) (place_cases n x xs k)

-- what stands at the place
pub place_got : (n : ℕ) (xs : List ℕ) (k j : ℕ) → place_from n xs k ≡ n + j → j < length xs → slice_get xs j ≡ Some k
place_got n [] k j e l = absurd (omega arith)
place_got n (x ∷ xs) k zero e l = ⊎_elim (λ h. ap Some h.0) (λ h. let least : n + 1 ≤ place_from (n + 1) xs k = place_least (n + 1) xs k in absurd (omega (arith, h.1))) (place_cases n x xs k)
place_got n (x ∷ xs) k (suc j) e l =
    ⊎_elim (λ h. absurd (omega (arith, h.1))) (λ h. place_got (n + 1) xs k j (omega (arith, h.1)) (omega arith)) (place_cases n x xs k)

pub place_in : (n : ℕ) (xs : List ℕ) (k : ℕ) → Contains xs k → place_from n xs k < n + length xs
place_in n [] k c = absurd (omega arith)
place_in n (x ∷ xs) k c =
    ⊎_elim (λ h. omega (arith, h.1))
    (λ h. ⊎_elim (λ same. absurd (h.0 same)) (λ later. let l : place_from (n + 1) xs k < n + 1 + length xs = place_in (n + 1) xs k later in omega (arith, h.1)) (contains_cases x xs k c))
    (place_cases n x xs k)

-- a place that was found stays, whatever follows
place_append : (n : ℕ) (xs ys : List ℕ) (k : ℕ) → place_from n xs k < n + length xs → place_from n (xs ++ ys) k ≡ place_from n xs k
place_append n [] ys k l = absurd (omega arith)
place_append n (x ∷ xs) ys k l =
    ⊎_elim (λ h. ⊎_elim (λ g. g.1 ∙ sym h.1) (λ g. absurd (g.0 h.0)) (place_cases n x (xs ++ ys) k))
    (λ h. ⊎_elim (λ g. absurd (h.0 g.0)) (λ g. g.1 ∙ place_append (n + 1) xs ys k (omega (arith, h.1)) ∙ sym h.1) (place_cases n x (xs ++ ys) k))
    (place_cases n x xs k)

place_new : (n : ℕ) (xs ys : List ℕ) (k : ℕ) → place_from n xs k ≡ n + length xs → place_from n (xs ++ k ∷ ys) k ≡ n + length xs
place_new n [] ys k e = ⊎_elim (λ h. h.1 ∙ (omega arith)) (λ h. absurd (h.0 refl)) (place_cases n k ys k)
place_new n (x ∷ xs) ys k e =
    ⊎_elim (λ h. absurd (omega (arith, h.1)))
    (λ h. ⊎_elim (λ g. absurd (h.0 g.0)) (λ g. let there : place_from (n + 1) (xs ++ k ∷ ys) k ≡ n + 1 + length xs = place_new (n + 1) xs ys k (omega (arith, h.1)) in omega (arith, g.1)) (place_cases n x (xs ++ k ∷ ys) k))
    (place_cases n x xs k)

-- a variable is seen already, or comes next
seen_cases : (seen : List ℕ) (k : ℕ) → ((place_from 0 seen k < length seen) × (seen_with seen k ≡ seen)) ⊎ ((place_from 0 seen k ≡ length seen) × (seen_with seen k ≡ seen ++ k ∷ []))
seen_cases seen k = go (nat_eq (place_from 0 seen k) (length seen)) refl
  where
    go : (b : Bool) → nat_eq (place_from 0 seen k) (length seen) ≡ b → ((place_from 0 seen k < length seen) × ((if b then seen ++ k ∷ [] else seen) ≡ seen)) ⊎ ((place_from 0 seen k ≡ length seen) × ((if b then seen ++ k ∷ [] else seen) ≡ seen ++ k ∷ []))
    go true e = inr (grind (arith, nat_tests), refl)
    go false e = let most : place_from 0 seen k ≤ 0 + length seen = place_most 0 seen k in inl (grind (arith, nat_tests), refl)

-- the order goes on from what was seen
extends : (seen : List ℕ) (terms : List Term) → (more : List ℕ) × (order_in seen terms ≡ seen ++ more)
extends seen [] = ([], sym (append-nil seen))
extends seen (Const text ∷ terms) = extends seen terms
extends seen (Var k ∷ terms) = ⊎_elim
    (λ h. let (more, e) = extends seen terms in (more, ap (λ s. order_in s terms) h.1 ∙ e))
    (λ h. let (more, e) = extends (seen ++ k ∷ []) terms in (k ∷ more, ap (λ s. order_in s terms) h.1 ∙ e ∙ append_assoc seen (k ∷ []) more))
    (seen_cases seen k)

pub order_length : (seen : List ℕ) (terms : List Term) → length (order_in seen terms) ≤ length seen + length terms
order_length seen [] = omega arith
order_length seen (Const text ∷ terms) = omega (arith, order_length seen terms)
order_length seen (Var k ∷ terms) = ⊎_elim
    (λ h. let e : length (order_in (seen_with seen k) terms) ≡ length (order_in seen terms) = ap (λ s. length (order_in s terms)) h.1 in omega (arith, order_length seen terms))
    (λ h. let e : length (order_in (seen_with seen k) terms) ≡ length (order_in (seen ++ k ∷ []) terms) = ap (λ s. length (order_in s terms)) h.1 in
    let one : length (seen ++ k ∷ []) ≡ length seen + 1 = length_push seen k in omega (arith, order_length (seen ++ k ∷ []) terms))
    (seen_cases seen k)

-- a term's variable is in the order, before its end
pub placed : (seen : List ℕ) (terms : List Term) (k : ℕ) → Contains terms (Var k) → place_from 0 (order_in seen terms) k < length (order_in seen terms)
placed seen [] k c = absurd (omega arith)
placed seen (Const text ∷ terms) k c = ⊎_elim (λ e. absurd (cc)) (λ h. placed seen terms k h) (contains_cases (Const text) terms (Var k) c)
placed seen (Var x ∷ terms) k c = ⊎_elim
    (λ e. let same : x ≡ k = cc in subst (λ y. place_from 0 (order_in (seen_with seen x) terms) y < length (order_in (seen_with seen x) terms)) same (fresh x))
    (λ h. placed (seen_with seen x) terms k h)
    (contains_cases (Var x) terms (Var k) c)
  where
    kept_in : (s : List ℕ) (x : ℕ) → place_from 0 s x < length s → place_from 0 (order_in s terms) x < length (order_in s terms)
    kept_in s x l =
        let (more, e) = extends s terms in
        let at : place_from 0 (order_in s terms) x ≡ place_from 0 s x = ap (λ o. place_from 0 o x) e ∙ place_append 0 s more x (omega arith) in
        let long : length (order_in s terms) ≡ length s + length more = ap length e ∙ length-append s more in
        omega arith

    fresh : (x : ℕ) → place_from 0 (order_in (seen_with seen x) terms) x < length (order_in (seen_with seen x) terms)
    fresh x = kept_in (seen_with seen x) x (⊎_elim
        (λ h. subst (λ s. place_from 0 s x < length s) (sym h.1) h.0)
        (λ h. subst (λ s. place_from 0 s x < length s) (sym h.1)
        (let at : place_from 0 (seen ++ x ∷ []) x ≡ 0 + length seen = place_new 0 seen [] x (omega (arith, h.0)) in
        let one : length (seen ++ x ∷ []) ≡ length seen + 1 = length_push seen x in omega arith))
        (seen_cases seen x))

-- the terms with their places as numbers are numbered by first occurrence
pub numbered : (order seen : List ℕ) (terms : List Term) → order ≡ order_in seen terms → OrderedFrom (length seen) (map (number_in order) terms) × (max (length seen) (terms_bound (map (number_in order) terms)) ≡ length order)
numbered order seen [] e = (tt, (let same : length order ≡ length seen = ap length e in omega arith))
numbered order seen (Const text ∷ terms) e = numbered order seen terms e
numbered order seen (Var k ∷ terms) e = ⊎_elim
    (λ h.
    let e' : order ≡ order_in seen terms = e ∙ ap (λ s. order_in s terms) h.1 in
    let (more, longer) = extends seen terms in
    let at : place_from 0 order k ≡ place_from 0 seen k = ap (λ o. place_from 0 o k) (e' ∙ longer) ∙ place_append 0 seen more k (omega (arith, h.0)) in
    let stays : max (place_from 0 order k + 1) (length seen) ≡ length seen = omega (arith, h.0) in
    let rest = numbered order seen terms e' in
    ((omega (arith, h.0), subst (λ n. OrderedFrom n (map (number_in order) terms)) (sym stays) rest.0), omega (arith, h.0, rest.1)))
    (λ h.
    let e' : order ≡ order_in (seen ++ k ∷ []) terms = e ∙ ap (λ s. order_in s terms) h.1 in
    let (more, longer) = extends (seen ++ k ∷ []) terms in
    let at : place_from 0 order k ≡ 0 + length seen = ap (λ o. place_from 0 o k) (e' ∙ longer ∙ append_assoc seen (k ∷ []) more) ∙ place_new 0 seen more k (omega (arith, h.0)) in
    let one : length (seen ++ k ∷ []) ≡ length seen + 1 = length_push seen k in
    let goes_on : max (place_from 0 order k + 1) (length seen) ≡ length (seen ++ k ∷ []) = omega arith in
    let rest = numbered order (seen ++ k ∷ []) terms e' in
    ((omega arith, subst (λ n. OrderedFrom n (map (number_in order) terms)) (sym goes_on) rest.0), omega (arith, rest.1)))
    (seen_cases seen k)

-- variables with one place are one variable
pub placed_once : (order : List ℕ) (x y : ℕ) → place_from 0 order x < length order → place_from 0 order x ≡ place_from 0 order y → x ≡ y
placed_once order x y within same =
    let first : slice_get order (place_from 0 order x) ≡ Some x = place_got 0 order x (place_from 0 order x) (omega arith) within in
    let second : slice_get order (place_from 0 order x) ≡ Some y = place_got 0 order y (place_from 0 order x) (omega arith) within in
    some_injective x y (sym first ∙ second)

-- atom by atom, or over all terms at once
order_append : (seen : List ℕ) (first second : List Term) → order_in seen (first ++ second) ≡ order_in (order_in seen first) second
order_append seen [] second = refl
order_append seen (Const text ∷ first) second = order_append seen first second
order_append seen (Var k ∷ first) second = order_append (seen_with seen k) first second

pub through_all : (seen : List ℕ) (atoms : List Atom) → order_through seen atoms ≡ order_in seen (terms_of atoms)
through_all seen [] = refl
through_all seen (atom ∷ atoms) = through_all (order_in seen atom.terms) atoms ∙ sym (order_append seen atom.terms (terms_of atoms))

pub terms_of_map : (f : Term → Term) (atoms : List Atom) → terms_of (map (with_terms f) atoms) ≡ map f (terms_of atoms)
terms_of_map f [] = refl
terms_of_map f (atom ∷ atoms) = ap (λ rest. map f atom.terms ++ rest) (terms_of_map f atoms) ∙ sym (map-append f atom.terms (terms_of atoms))
