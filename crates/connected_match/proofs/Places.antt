-- Places of names.
use Rattle.std.proofs.Common.{◌≡◌, ◌⊎◌, ℕ, suc, ◌+◌, ◌<◌, List, [], ◌∷◌, ◌++◌, true, false, length, refl, ap, ◌∙◌, subst, inl, inr, ⊎_elim, arith}
use Rattle.std.specs.Prelude.{Contains, Some, slice_get, nat_eq}
use Rattle.std.proofs.lemmas.Bool.{cases_Bool, eqb-true, eqb-false, eq-eqb}
use Rattle.std.proofs.lemmas.Option.{slice_get_within}
use Rattle.lists.proofs.Members.{contains_here, contains_there, contains_cases}
use Rattle.lists.proofs.Places.{got_indexed}
use Rattle.connected_match.specs.Chains.{place_in}

got_there : (y : ℕ) (names : List ℕ) (k : ℕ) → slice_get (y ∷ names) (k + 1) ≡ slice_get names k
got_there y names k = let on : k + 1 ≡ suc k = omega arith in ap (slice_get (y ∷ names)) on

not_other : (y x : ℕ) (names : List ℕ) → nat_eq y x ≡ false → Contains (y ∷ names) x → Contains names x
not_other y x names other among = ⊎_elim (λ same. absurd (eqb-false y x other same)) (λ there. there) (contains_cases y names x among)

-- a name is among the names, or has no place
pub among_or_not : (names : List ℕ) (x : ℕ) → Contains names x ⊎ (place_in names x ≡ length names)
among_or_not [] x = inr refl
among_or_not (y ∷ names) x = ⊎_elim
    (λ (here : nat_eq y x ≡ true). inl (subst (Contains (y ∷ names)) (eqb-true y x here) (contains_here y names)))
    (λ (other : nat_eq y x ≡ false). ⊎_elim (λ there. inl (contains_there y names x there)) (λ past. inr (rw other (omega (arith, past)))) (among_or_not names x))
    (cases_Bool (nat_eq y x))

-- a name stands at its place
pub at_place : (names : List ℕ) (x : ℕ) → Contains names x → slice_get names (place_in names x) ≡ Some x
at_place [] x among = absurd (omega (arith, among.1))
at_place (y ∷ names) x among = ⊎_elim
    (λ (here : nat_eq y x ≡ true). rw here (ap Some (eqb-true y x here)))
    (λ (other : nat_eq y x ≡ false). rw other (got_there y names (place_in names x) ∙ at_place names x (not_other y x names other among)))
    (cases_Bool (nat_eq y x))

pub place_low : (names : List ℕ) (x : ℕ) → Contains names x → place_in names x < length names
place_low names x among = slice_get_within names (place_in names x) x (at_place names x among)

-- more names behind change no place
pub place_before : (names more : List ℕ) (x : ℕ) → Contains names x → place_in (names ++ more) x ≡ place_in names x
place_before [] more x among = absurd (omega (arith, among.1))
place_before (y ∷ names) more x among = ⊎_elim
    (λ (here : nat_eq y x ≡ true). rw here refl)
    (λ (other : nat_eq y x ≡ false). rw other (ap (λ n. n + 1) (place_before names more x (not_other y x names other among))))
    (cases_Bool (nat_eq y x))

-- a name without a place that is added has the next one
pub place_added : (names more : List ℕ) (x : ℕ) → place_in names x ≡ length names → place_in (names ++ x ∷ more) x ≡ length names
place_added [] more x none = let same : nat_eq x x ≡ true = eq-eqb x x refl in rw same refl
place_added (y ∷ names) more x none = ⊎_elim
    (λ (here : nat_eq y x ≡ true). absurd (let never : 0 ≡ length (y ∷ names) = rw here at none in omega (arith, never)))
    (λ (other : nat_eq y x ≡ false).
    let short : place_in names x + 1 ≡ length (y ∷ names) = rw other at none in
    let rest : place_in (names ++ x ∷ more) x ≡ length names = place_added names more x (omega (arith, short)) in
    rw other (omega (arith, rest)))
    (cases_Bool (nat_eq y x))
