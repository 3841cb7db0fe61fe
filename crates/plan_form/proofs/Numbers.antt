-- Numbers without leading zeros are read exactly where they are written so.
use Rattle.std.proofs.Common.{◌≡◌, ℕ, ◌+◌, ◌-◌, ◌*◌, ◌^◌, ◌<◌, ◌/◌, ◌%◌, Bool, true, false, cond, List, [], ◌∷◌, ◌++◌, Option, None, Some, refl, sym, ap, subst, ◌∙◌, arith}
use Rattle.std.specs.Prelude.{◌&&◌, ◌≢◌, nat_lt}
use Rattle.std.specs.Fmt.{decimal}
use Rattle.std.specs.Cmp.Lexicographic.{nat_list_eq_equiv}
use Rattle.std.proofs.lemmas.Bool.{ltb-true, lt-ltb}
use Rattle.lists.proofs.Booleans.{both_true, and_true}
use Rattle.lists.proofs.Members.{some_injective}
use Rattle.lists.proofs.Orders.{text_is}
use Rattle.pq_text.specs.declared.lexeme.Lexeme.{Lexeme}
use Rattle.pq_text.specs.Numbers.{value_of}
use Rattle.pq_text.specs.Lexemes.{◌>>=◌, number_at}
use Rattle.pq_text.specs.Forms.{Slot, Digits, Takes}
use Rattle.pq_text.proofs.Forms.{bind_some, number_found, number_again}
use Rattle.pq_text.proofs.Digits.{decimal_value}
use Rattle.plan_form.specs.Grammar.{is_decimal}
use Rattle.plan_form.specs.Reading.{plain_of, plain_at}

if_some : (t : Bool) (v n : ℕ) → cond t (Some v) None ≡ Some n → (t ≡ true) × (v ≡ n)
if_some true v n e = (refl, cc)
if_some false v n e = absurd (cc)

pub plain_found : (digits : List ℕ) (n : ℕ) → plain_of digits ≡ Some n → (is_decimal n digits ≡ true) × (n < 2 ^ 32)
plain_found digits n e =
    let v = value_of digits in
    let g = if_some (is_decimal v digits && nat_lt v (2 ^ 32)) v n e in
    let b = both_true (is_decimal v digits) (nat_lt v (2 ^ 32)) g.0 in
    (subst (λ (m : ℕ). is_decimal m digits ≡ true) g.1 b.0, subst (λ (m : ℕ). m < 2 ^ 32) g.1 (ltb-true v (2 ^ 32) b.1))

plain_printed : (n : ℕ) → n < 2 ^ 32 → plain_of (decimal n) ≡ Some n
plain_printed n fits =
    let v : value_of (decimal n) ≡ n = decimal_value n (omega arith) in
    let test : (is_decimal n (decimal n) && nat_lt n (2 ^ 32)) ≡ true = and_true (is_decimal n (decimal n)) (nat_lt n (2 ^ 32)) (nat_list_eq_equiv.refl (decimal n)) (lt-ltb n (2 ^ 32) fits) in
    let P : ℕ → Option ℕ = λ m. cond (is_decimal m (decimal n) && nat_lt m (2 ^ 32)) (Some m) None in
    ap P v ∙ ap (λ (t : Bool). cond t (Some n) None) test

pub plain_again : (digits : List ℕ) (n : ℕ) → is_decimal n digits ≡ true → n < 2 ^ 32 → plain_of digits ≡ Some n
plain_again digits n is fits = ap plain_of (text_is digits (decimal n) is) ∙ plain_printed n fits

pub plain_some : (digits : List ℕ) (n : ℕ) → digits ≡ decimal n → n < 2 ^ 32 → Some n ≡ plain_of digits
plain_some digits n says fits = sym (ap plain_of says ∙ plain_printed n fits)

-- ---- at the front of tokens

pub plain_at_found : (ls : List Lexeme) (n : ℕ) (rest : List Lexeme) → plain_at ls ≡ Some (n, rest) → Takes ls (Digits (is_decimal n) ∷ []) rest × (n < 2 ^ 32)
plain_at_found ls n rest e =
    let a = bind_some (number_at ls) (λ (x : List ℕ × List Lexeme). plain_of x.0 >>= λ m. Some (m, x.1)) (n, rest) e in
    let b = bind_some (plain_of a.0.0) (λ (m : ℕ). Some (m, a.0.1)) (n, rest) a.2 in
    let made : ℕ × List Lexeme = (b.0, a.0.1) in
    let g = plain_found a.0.0 b.0 b.1 in
    let t = number_found ls a.0.0 a.0.1 (is_decimal b.0) g.0 a.1 in
    subst (λ (y : ℕ × List Lexeme). Takes ls (Digits (is_decimal y.0) ∷ []) y.1 × (y.0 < 2 ^ 32)) (some_injective made (n, rest) b.2) (t, g.1)

pub plain_at_again : (ls : List Lexeme) (n : ℕ) (ss : List Slot) (rest : List Lexeme) → n < 2 ^ 32 → Takes ls (Digits (is_decimal n) ∷ ss) rest → (mid : List Lexeme) × (plain_at ls ≡ Some (n, mid)) × Takes mid ss rest
plain_at_again ls n ss rest fits t =
    let d = number_again ls (is_decimal n) ss rest t in
    let p = plain_again d.0 n d.3 fits in
    (d.1, rw (d.2, p) refl, d.4)
