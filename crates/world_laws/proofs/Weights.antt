-- Lists whose members have weights, and a list without one of its members.
use Rattle.std.proofs.Common.{◌≡◌, ◌⊎◌, ◌+◌, ℕ, List, [], ◌∷◌, length, sym, ap, subst, ◌∙◌, inl, inr, ⊎_elim, arith}
use Rattle.std.specs.Prelude.{Contains}
use Rattle.lists.proofs.Members.{contains_here, contains_there, contains_cases}

abbrev pub total : {X : Type 0} → (X → ℕ) → List X → ℕ
total w [] = 0
total w (x ∷ xs) = w x + total w xs

-- the list without one of its members
pub record Without {X : Type 0} (w : X → ℕ) (xs : List X) (x : X) : Type 0 where
  pub others : List X
  pub weight : total w others + w x ≡ total w xs
  pub fewer : length others + 1 ≡ length xs
  pub keeps : (y : X) → Contains xs y → (x ≡ y) ⊎ Contains others y

pub without : {X : Type 0} (w : X → ℕ) (xs : List X) (x : X) → Contains xs x → Without w xs x
without w [] x there = absurd (omega arith)
without w (y ∷ xs) x there = ⊎_elim
    (λ (same : y ≡ x).
    let weights = ap w same in
    record { others = xs; weight = omega (arith, weights); fewer = omega arith; keeps = λ z among. ⊎_elim (λ e. inl (sym same ∙ e)) (λ later. inr later) (contains_cases y xs z among) })
    (λ later.
    let rest = without w xs x later in
    let weights = rest.weight in
    let count = rest.fewer in
    record {
      others = y ∷ rest.others;
      weight = omega (arith, weights);
      fewer = omega (arith, count);
      keeps = λ z among. ⊎_elim (λ (e : y ≡ z). inr (subst (Contains (y ∷ rest.others)) e (contains_here y rest.others))) (λ more. ⊎_elim (λ e. inl e) (λ h. inr (contains_there y rest.others z h)) (rest.keeps z more)) (contains_cases y xs z among);
    })
    (contains_cases y xs x there)
