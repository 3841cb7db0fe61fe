-- Fronts of lists.
use Rattle.std.proofs.Common.{◌≡◌, ℕ, zero, suc, ◌<◌, List, [], ◌∷◌, ◌++◌, length, map, take, refl, sym, ap, subst, inl, inr, ⊎_elim, ◌∙◌, append_assoc, arith}
use Rattle.std.specs.Prelude.{◌⊎◌, flat_map, Some, slice_get}
use Rattle.std.proofs.lemmas.Bool.{cases_lt}
use Rattle.std.proofs.lemmas.Option.{slice_get_within}
use Rattle.std.proofs.lemmas.List.{append-nil, length_push}
use Rattle.lists.proofs.Members.{got_push, got_before, some_injective}
use Rattle.meaning.specs.declared.types.Val.{Val}
use Rattle.meaning.specs.declared.types.Ground.{Ground}
use Rattle.meaning.specs.declared.types.Val.TheVariants.{Const}
use Rattle.accessible_copy.specs.Known.{known_values}

pub take_front : {X : Type 0} (xs ys : List X) → take (length xs) (xs ++ ys) ≡ xs
take_front [] ys = refl
take_front (x ∷ xs) ys = ap (λ z. x ∷ z) (take_front xs ys)

abbrev values_in : List Ground → List Val
values_in facts = flat_map (λ (fact : Ground). fact.vals) facts

values_front : (facts : List Ground) (count : ℕ) → (rest : List Val) × (values_in facts ≡ values_in (take count facts) ++ rest)
values_front facts zero = (values_in facts, refl)
values_front [] (suc count) = ([], refl)
values_front (fact ∷ facts) (suc count) =
    let (rest, e) = values_front facts count in
    (rest, ap (λ z. fact.vals ++ z) e ∙ sym (append_assoc fact.vals (values_in (take count facts)) rest))

pub known_front : (constants : List (List ℕ)) (facts : List Ground) (count width : ℕ) → width ≡ length (known_values constants (take count facts))
    → take width (known_values constants facts) ≡ known_values constants (take count facts)
known_front constants facts count width wide =
    let (rest, e) = values_front facts count in
    let whole : known_values constants facts ≡ known_values constants (take count facts) ++ rest
    = ap (λ z. map Const constants ++ z) e ∙ sym (append_assoc (map Const constants) (values_in (take count facts)) rest) in
    rw wide (rw whole (take_front (known_values constants (take count facts)) rest))

values_push : (facts : List Ground) (fact : Ground) → values_in (facts ++ fact ∷ []) ≡ values_in facts ++ fact.vals
values_push [] fact = append-nil fact.vals
values_push (first ∷ facts) fact = ap (λ z. first.vals ++ z) (values_push facts fact) ∙ sym (append_assoc first.vals (values_in facts) fact.vals)

-- one fact more
pub known_push : (constants : List (List ℕ)) (facts : List Ground) (fact : Ground) → known_values constants (facts ++ fact ∷ []) ≡ known_values constants facts ++ fact.vals
known_push constants facts fact = ap (λ z. map Const constants ++ z) (values_push facts fact) ∙ sym (append_assoc (map Const constants) (values_in facts) fact.vals)

-- a member of a front, by its place
pub got_front : {X : Type 0} (n : ℕ) (xs : List X) (k : ℕ) (x : X) → slice_get (take n xs) k ≡ Some x → (k < n) × (slice_get xs k ≡ Some x)
got_front zero xs k x e = absurd (cc)
got_front (suc n) [] k x e = absurd (cc)
got_front (suc n) (y ∷ xs) zero x e = (omega arith, e)
got_front (suc n) (y ∷ xs) (suc k) x e = let (low, got) = got_front n xs k x e in (omega arith, got)

pub front_got : {X : Type 0} (n : ℕ) (xs : List X) (k : ℕ) (x : X) → k < n → slice_get xs k ≡ Some x → slice_get (take n xs) k ≡ Some x
front_got zero xs k x l e = absurd (omega arith)
front_got (suc n) [] k x l e = absurd (cc)
front_got (suc n) (y ∷ xs) zero x l e = e
front_got (suc n) (y ∷ xs) (suc k) x l e = front_got n xs k x (omega arith) e

-- one member more, by its place
pub got_cases : {X : Type 0} (xs : List X) (x : X) (k : ℕ) (y : X) → slice_get (xs ++ x ∷ []) k ≡ Some y → (slice_get xs k ≡ Some y) ⊎ ((k ≡ length xs) × (x ≡ y))
got_cases xs x k y e = ⊎_elim (λ low. inl (sym (got_before xs (x ∷ []) k low) ∙ e))
    (λ high.
    let within = slice_get_within (xs ++ x ∷ []) k y e in
    let long = length_push xs x in
    let at : k ≡ length xs = omega arith in
    inr (at, some_injective x y (sym (got_push xs x) ∙ subst (λ n. slice_get (xs ++ x ∷ []) n ≡ Some y) at e))) (cases_lt k (length xs))
