-- Texts with a minus sign in front, as integers.
use Rattle.std.proofs.Common.{◌≡◌, ◌∙◌, ◌↔◌, ℕ, zero, suc, ◌≤◌, ◌^◌, Bool, true, false, IsTrue, List, [], ◌∷◌, ◌-◌, length, take, drop, get_or, refl, sym, ap, subst, inl, inr, arith}
use Rattle.std.specs.Prelude.{not, nat_eq}
use Rattle.std.specs.Fmt.{decimal}
use Rattle.std.proofs.lemmas.Bool.{eqb-true}
use Rattle.lists.specs.Digits.{value_from}
use Rattle.lists.proofs.Booleans.{test_fails}
use Rattle.lists.proofs.Digits.{BeginsPlain, decimal_begins, decimal_value}
use Rattle.lists.proofs.Members.{tail_is}
use Rattle.lists.proofs.Places.{split_first}
use Rattle.meaning.specs.Integers.{IsInteger}

pub minus_text : (text : List ℕ) → 1 ≤ length text → get_or text 0 0 ≡ 45 → text ≡ 45 ∷ take (length text - 1) (drop 1 text)
minus_text [] some first = absurd (omega arith)
minus_text (b ∷ bs) some first = split_first (b ∷ bs) 45 some (sym first)

-- no digit is a minus sign, so the digits behind it are those of a number that is not 0
behind_minus : (text digits : List ℕ) → text ≡ 45 ∷ digits → IsInteger text → (n : ℕ) × (1 ≤ n) × (n ≤ 2 ^ 63) × (digits ≡ decimal n)
behind_minus text digits is (inl (n, low, same)) =
    let begins : BeginsPlain n (45 ∷ digits) = subst (BeginsPlain n) (sym same ∙ is) (decimal_begins n (omega arith)) in
    let digit = begins.0 in
    absurd (omega arith)
behind_minus text digits is (inr (n, some, low, same)) = (n, some, low, tail_is 45 45 digits (decimal n) (sym is ∙ same))

not_zero : (n : ℕ) (t : Bool) → nat_eq n 0 ≡ t → IsTrue (not t) → 1 ≤ n
not_zero n true zeros denied = absurd cc
not_zero zero false zeros denied = absurd cc
not_zero (suc n) false zeros denied = omega arith

some_not_zero : (n : ℕ) (t : Bool) → nat_eq n 0 ≡ t → 1 ≤ n → IsTrue (not t)
some_not_zero n true zeros some = absurd (omega (arith, eqb-true n 0 zeros))
some_not_zero n false zeros some = refl

pub minus_number : (text digits : List ℕ) (n : ℕ) → text ≡ 45 ∷ digits → (digits ≡ decimal n) × (n ≤ 2 ^ 63) → IsTrue (not (nat_eq n 0)) ↔ IsInteger text
minus_number text digits n is (same, low) = (
  (λ denied. inr (n, not_zero n (nat_eq n 0) refl denied, low, is ∙ ap (λ ds. 45 ∷ ds) same)),
  (λ integer.
      let (m, some, below, other) = behind_minus text digits is integer in
      let once : n ≡ m = sym (decimal_value n (omega arith)) ∙ ap (value_from 0) (sym same ∙ other) ∙ decimal_value m (omega arith) in
      some_not_zero n (nat_eq n 0) refl (omega arith)),
)

pub minus_no_number : (text digits : List ℕ) → text ≡ 45 ∷ digits → ((n : ℕ) → n ≤ 2 ^ 63 → digits ≡ decimal n → ⊥) → IsTrue false ↔ IsInteger text
minus_no_number text digits is none = test_fails (λ integer. let (n, some, low, same) = behind_minus text digits is integer in none n low same)
