-- Conjunctions, disjunctions and denials of Booleans, and tests that hold or fail. Crates above cite these lemmas.
use Rattle.std.proofs.Common.{◌≡◌, ◌⊎◌, ◌↔◌, Bool, true, false, ◌&&◌, ◌||◌, cond, Some, None, IsTrue, refl, inl, inr}
use Rattle.std.specs.Prelude.{not}

-- conjunctions
pub both_true : (x y : Bool) → (x && y) ≡ true → (x ≡ true) × (y ≡ true)
both_true true y e = (refl, e)
both_true false y e = absurd cc

pub first_true : (x y : Bool) → (x && y) ≡ true → x ≡ true
first_true x y e = (both_true x y e).0

pub and_true : (x y : Bool) → x ≡ true → y ≡ true → (x && y) ≡ true
and_true x y e f = cc

pub and_false : (x : Bool) → (x && false) ≡ false
and_false true = refl
and_false false = refl

-- disjunctions
pub or_false : (x : Bool) → (x || false) ≡ x
or_false true = refl
or_false false = refl

pub both_false : (x y : Bool) → (x || y) ≡ false → (x ≡ false) × (y ≡ false)
both_false true y e = absurd cc
both_false false y e = (refl, e)

pub first_false : (x y : Bool) → (x || y) ≡ false → x ≡ false
first_false x y e = (both_false x y e).0

pub second_false : (x y : Bool) → (x || y) ≡ false → y ≡ false
second_false x y e = (both_false x y e).1

pub neither_true : (x y : Bool) → x ≡ false → y ≡ false → (x || y) ≡ false
neither_true x y e f = cc

pub one_true : (x y : Bool) → (x || y) ≡ true → (x ≡ true) ⊎ (y ≡ true)
one_true true y e = inl refl
one_true false y e = inr e

-- denials
pub never_true : (x : Bool) → (x ≡ true → ⊥) → x ≡ false
never_true true never = absurd (never refl)
never_true false never = refl

pub not_true : (x : Bool) → not x ≡ true → x ≡ false
not_true true e = absurd cc
not_true false e = refl

pub not_false : (x : Bool) → not x ≡ false → x ≡ true
not_false true e = refl
not_false false e = absurd cc

pub denied_false : (x : Bool) → false ≡ not x → true ≡ x
denied_false true e = refl
denied_false false e = absurd cc

-- choices
pub cond_true : (test x : Bool) → x ≡ true → cond test true x ≡ true
cond_true true x e = refl
cond_true false x e = e

pub cond_some : {X : Type 0} (test : Bool) (x y : X) → cond test (Some x) None ≡ Some y → (test ≡ true) × (x ≡ y)
cond_some true x y e = (refl, cc)
cond_some false x y e = absurd cc

-- tests that say whether something holds
pub test_holds : {P : Type 0} → P → IsTrue true ↔ P
test_holds p = ((λ t. p), (λ q. refl))

pub test_fails : {P : Type 0} → (P → ⊥) → IsTrue false ↔ P
test_fails never = ((λ t. absurd (cc)), (λ p. absurd (never p)))
