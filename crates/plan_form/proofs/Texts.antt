-- Tests of membership among texts and numbers.
use Rattle.std.proofs.Common.{◌≡◌, ⊎_elim, ℕ, List, [], ◌∷◌, Bool, true, false, cond, nat_eq, refl, subst, arith}
use Rattle.std.specs.Prelude.{Contains}
use Rattle.std.specs.Cmp.Lexicographic.{pointwise, nat_list_eq_equiv}
use Rattle.std.proofs.lemmas.Bool.{eqb-true, eq-eqb}
use Rattle.lists.proofs.Members.{contains_here, contains_there, contains_cases}
use Rattle.lists.proofs.Booleans.{cond_true}
use Rattle.lists.proofs.Orders.{text_is}
use Rattle.plan_form.specs.Judging.{has_text, is_input_at}

pub has_in : (constants : List (List ℕ)) (text : List ℕ) → has_text constants text ≡ true → Contains constants text
has_in [] text h = absurd (cc)
has_in (c ∷ constants) text h = step (pointwise nat_eq c text) refl (λ r. has_in constants text r) h
  where
    step : (b : Bool) → pointwise nat_eq c text ≡ b → (has_text constants text ≡ true → Contains constants text) → cond b true (has_text constants text) ≡ true → Contains (c ∷ constants) text
    step true t rec h = subst (λ (x : List ℕ). Contains (c ∷ constants) x) (text_is c text t) (contains_here c constants)
    step false t rec h = contains_there c constants text (rec h)

pub first_true : (b r : Bool) → b ≡ true → cond b true r ≡ true
first_true true r h = refl
first_true false r h = absurd (cc)

pub in_has : (constants : List (List ℕ)) (text : List ℕ) → Contains constants text → has_text constants text ≡ true
in_has [] text c = absurd (omega arith)
in_has (x ∷ constants) text c =
    ⊎_elim (λ e. first_true (pointwise nat_eq x text) (has_text constants text) (subst (λ (y : List ℕ). pointwise nat_eq x y ≡ true) e (nat_list_eq_equiv.refl x)))
    (λ h. cond_true (pointwise nat_eq x text) (has_text constants text) (in_has constants text h)) (contains_cases x constants text c)

pub input_in : (inputs : List ℕ) (p : ℕ) → is_input_at inputs p ≡ true → Contains inputs p
input_in [] p h = absurd (cc)
input_in (q ∷ inputs) p h = step (nat_eq q p) refl (λ r. input_in inputs p r) h
  where
    step : (b : Bool) → nat_eq q p ≡ b → (is_input_at inputs p ≡ true → Contains inputs p) → cond b true (is_input_at inputs p) ≡ true → Contains (q ∷ inputs) p
    step true t rec h = subst (λ (x : ℕ). Contains (q ∷ inputs) x) (eqb-true q p t) (contains_here q inputs)
    step false t rec h = contains_there q inputs p (rec h)

pub in_input : (inputs : List ℕ) (p : ℕ) → Contains inputs p → is_input_at inputs p ≡ true
in_input [] p c = absurd (omega arith)
in_input (q ∷ inputs) p c =
    ⊎_elim (λ e. first_true (nat_eq q p) (is_input_at inputs p) (eq-eqb q p e))
    (λ h. cond_true (nat_eq q p) (is_input_at inputs p) (in_input inputs p h)) (contains_cases q inputs p c)
