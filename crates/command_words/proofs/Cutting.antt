-- Texts in two at their first `=`.
use Rattle.std.proofs.Common.{◌≡◌, ℕ, zero, suc, ◌<◌, Bool, true, false, List, [], ◌∷◌, ◌++◌, length, get_or, take, drop, None, Some, refl, ap, ◌∙◌, arith}
use Rattle.std.specs.Prelude.{nat_eq, if◌then◌else◌}
use Rattle.std.proofs.lemmas.Bool.{eqb-true, eq-eqb, ne_eqb}
use Rattle.command_words.specs.Cuts.{before_equals, behind_equals}

-- a text is its two parts
uncut_step : (b : ℕ) (bs : List ℕ) (t : Bool) → (behind_equals bs ≡ None → before_equals bs ≡ bs) → (if t then Some bs else behind_equals bs) ≡ None → (if t then [] else b ∷ before_equals bs) ≡ b ∷ bs
uncut_step b bs true further e = absurd cc
uncut_step b bs false further e = ap (λ (cs : List ℕ). b ∷ cs) (further e)

pub uncut : (bs : List ℕ) → behind_equals bs ≡ None → before_equals bs ≡ bs
uncut [] e = refl
uncut (b ∷ bs) e = uncut_step b bs (nat_eq b 61) (uncut bs) e

cut_step : (b : ℕ) (bs v : List ℕ) (t : Bool) → nat_eq b 61 ≡ t → (behind_equals bs ≡ Some v → before_equals bs ++ 61 ∷ v ≡ bs) → (if t then Some bs else behind_equals bs) ≡ Some v → (if t then [] else b ∷ before_equals bs) ++ 61 ∷ v ≡ b ∷ bs
cut_step b bs v true is further e = let same : b ≡ 61 = eqb-true b 61 is in let rest : bs ≡ v = cc in cc
cut_step b bs v false is further e = ap (λ (cs : List ℕ). b ∷ cs) (further e)

pub cut : (bs v : List ℕ) → behind_equals bs ≡ Some v → before_equals bs ++ 61 ∷ v ≡ bs
cut [] v e = absurd cc
cut (b ∷ bs) v e = cut_step b bs v (nat_eq b 61) refl (cut bs v) e

-- where the first `=` stands
pub before_at : (bs : List ℕ) (i : ℕ) → ((k : ℕ) → k < i → get_or bs k 0 ≡ 61 → ⊥) → i < length bs → get_or bs i 0 ≡ 61 → before_equals bs ≡ take i bs
before_at [] i none inside is = absurd (omega arith)
before_at (b ∷ bs) zero none inside is = ap (λ (t : Bool). if t then [] else b ∷ before_equals bs) (eq-eqb b 61 is)
before_at (b ∷ bs) (suc i) none inside is =
    ap (λ (t : Bool). if t then [] else b ∷ before_equals bs) (ne_eqb b 61 (none 0 (omega arith)))
    ∙ ap (λ (cs : List ℕ). b ∷ cs) (before_at bs i (λ k below. none (suc k) (omega arith)) (omega arith) is)

pub behind_at : (bs : List ℕ) (i : ℕ) → ((k : ℕ) → k < i → get_or bs k 0 ≡ 61 → ⊥) → i < length bs → get_or bs i 0 ≡ 61 → behind_equals bs ≡ Some (drop (suc i) bs)
behind_at [] i none inside is = absurd (omega arith)
behind_at (b ∷ bs) zero none inside is = ap (λ (t : Bool). if t then Some bs else behind_equals bs) (eq-eqb b 61 is)
behind_at (b ∷ bs) (suc i) none inside is =
    ap (λ (t : Bool). if t then Some bs else behind_equals bs) (ne_eqb b 61 (none 0 (omega arith)))
    ∙ behind_at bs i (λ k below. none (suc k) (omega arith)) (omega arith) is

pub before_all : (bs : List ℕ) → ((k : ℕ) → k < length bs → get_or bs k 0 ≡ 61 → ⊥) → before_equals bs ≡ bs
before_all [] none = refl
before_all (b ∷ bs) none =
    ap (λ (t : Bool). if t then [] else b ∷ before_equals bs) (ne_eqb b 61 (none 0 (omega arith)))
    ∙ ap (λ (cs : List ℕ). b ∷ cs) (before_all bs (λ k below. none (suc k) (omega arith)))

pub behind_all : (bs : List ℕ) → ((k : ℕ) → k < length bs → get_or bs k 0 ≡ 61 → ⊥) → behind_equals bs ≡ None
behind_all [] none = refl
behind_all (b ∷ bs) none =
    ap (λ (t : Bool). if t then Some bs else behind_equals bs) (ne_eqb b 61 (none 0 (omega arith)))
    ∙ behind_all bs (λ k below. none (suc k) (omega arith))
