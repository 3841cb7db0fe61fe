-- Numbers and their digits, and the locators that they make.
use Rattle.std.proofs.Common.{◌≡◌, ◌+◌, ◌^◌, ◌<◌, ◌≤◌, ◌⊎◌, inl, inr, ℕ, zero, suc, Bool, true, false, List, [], ◌∷◌, ◌++◌, length, get_or, take, drop, Option, None, Some, cond, refl, sym, ap, ◌∙◌, arith, append_assoc}
use Rattle.std.specs.Prelude.{◌&&◌, ◌≢◌, not, nat_eq, nat_le}
use Rattle.std.specs.Cmp.Lexicographic.{pointwise, bytes_decides}
use Rattle.std.specs.Fmt.{decimal}
use Rattle.std.specs.List.{position_or_len, before_first, after_first}
use Rattle.std.proofs.lemmas.Bool.{cases_lt, eqb-true, ne_eqb}
use Rattle.std.proofs.lemmas.Bool.Decides.{nat_tests}
use Rattle.std.proofs.lemmas.Fmt.{decimal_digit, digits_value-decimal}
use Rattle.std.proofs.lemmas.List.Sums.{split_at_first, passes_at_first}
use Rattle.pq_text.specs.Numbers.{value_of}
use Rattle.lists.proofs.Digits.{value_numerals}
use Rattle.world_source.specs.Formulas.{IsInRange, in_range, locator, number_of, numbers_of}

-- a number that is written is the one that is read
pub number_is : (ds : List ℕ) (n : ℕ) → n < 2 ^ 64 → ds ≡ decimal n → number_of ds ≡ Some n
number_is ds n fits is =
    let value : value_of ds ≡ n = ap value_of is ∙ digits_value-decimal value_numerals n fits in
    let same : pointwise nat_eq ds (decimal (value_of ds)) ≡ true = (bytes_decides ds (decimal (value_of ds))).1 (is ∙ ap decimal (sym value)) in
    ap (λ b. cond b (Some (value_of ds)) None) same ∙ ap Some value

number_case : (ds : List ℕ) (m n : ℕ) (b : Bool) → pointwise nat_eq ds (decimal m) ≡ b → cond b (Some m) None ≡ Some n → ds ≡ decimal n
number_case ds m n true is e = let same : m ≡ n = cc in (bytes_decides ds (decimal m)).0 is ∙ ap decimal same
number_case ds m n false is e = absurd cc

pub number_so : (ds : List ℕ) (n : ℕ) → number_of ds ≡ Some n → ds ≡ decimal n
number_so ds n e = number_case ds (value_of ds) n (pointwise nat_eq ds (decimal (value_of ds))) refl e

pub no_digits : number_of [] ≡ None
no_digits = ap (λ (ds : List ℕ). cond (pointwise nat_eq [] ds) (Some 0) None) (decimal_digit 0 (omega arith))

-- ---- numbers in range

abbrev found : ℕ → ℕ → Option (ℕ × ℕ)
found k n = Some (k, n)

range_case : (k n : ℕ) (b : Bool) → nat_le 1 k && nat_le k 8 && (nat_le 1 n && nat_le n 10000) ≡ b → cond b (found k n) None ≡ found k n → IsInRange k n
range_case k n true is e = record {
  some_step = grind (arith, nat_tests);
  few_steps = grind (arith, nat_tests);
  some = grind (arith, nat_tests);
  few = grind (arith, nat_tests);
}
range_case k n false is e = absurd cc

pub in_range_some : (k n : ℕ) → IsInRange k n → in_range (Some k) (Some n) ≡ Some (k, n)
in_range_some k n is = grind (arith, nat_tests, is.some_step, is.few_steps, is.some, is.few)

abbrev step_in : Option (ℕ × ℕ) → ℕ
step_in None = 0
step_in (Some p) = p.0

abbrev count_in : Option (ℕ × ℕ) → ℕ
count_in None = 0
count_in (Some p) = p.1

in_range_first : (o p : Option ℕ) (k n : ℕ) → in_range o p ≡ Some (k, n) → (o ≡ Some k) × (p ≡ Some n) × IsInRange k n
in_range_first None p k n e = absurd cc
in_range_first (Some i) None k n e = absurd cc
in_range_first (Some i) (Some j) k n e = go (nat_le 1 i && nat_le i 8 && (nat_le 1 j && nat_le j 10000)) refl e
  where
    go : (b : Bool) → nat_le 1 i && nat_le i 8 && (nat_le 1 j && nat_le j 10000) ≡ b → cond b (found i j) None ≡ found k n → (Some i ≡ Some k) × (Some j ≡ Some n) × IsInRange k n
    go true is f =
        let first : i ≡ k = ap step_in f in
        let second : j ≡ n = ap count_in f in
        (ap Some first, ap Some second, range_case k n true (ap (λ x. nat_le 1 x && nat_le x 8 && (nat_le 1 n && nat_le n 10000)) (sym first) ∙ ap (λ x. nat_le 1 i && nat_le i 8 && (nat_le 1 x && nat_le x 10000)) (sym second) ∙ is) refl)
    go false is f = absurd cc

large : (ds : List ℕ) (n : ℕ) → ((m : ℕ) → m < 2 ^ 32 → ds ≢ decimal m) → number_of ds ≡ Some n → 2 ^ 32 ≤ n
large ds n none e = go (cases_lt n (2 ^ 32))
  where
    go : (n < 2 ^ 32) ⊎ (2 ^ 32 ≤ n) → 2 ^ 32 ≤ n
    go (inl low) = absurd (none n low (number_so ds n e))
    go (inr high) = high

-- ---- locators

abbrev before : List ℕ → List ℕ
before text = before_first (λ b. nat_eq b 47) text

abbrev after : List ℕ → List ℕ
after text = after_first (λ b. nat_eq b 47) text

drop_all : (xs : List ℕ) (n : ℕ) → length xs ≤ n → drop n xs ≡ []
drop_all [] zero le = refl
drop_all [] (suc n) le = refl
drop_all (x ∷ xs) zero le = absurd (omega (arith, le))
drop_all (x ∷ xs) (suc n) le = drop_all xs n (omega (arith, le))

-- a digit, a slash and digits
cut : (d : ℕ) (ds : List ℕ) → d ≢ 47 → numbers_of (d ∷ 47 ∷ ds) ≡ in_range (number_of (d ∷ [])) (number_of ds)
cut d ds other =
    ap (λ b. in_range (number_of (take (cond (not b) (1 + 0) 0) (d ∷ 47 ∷ ds))) (number_of (drop (cond (not b) (1 + 0) 0 + 1) (d ∷ 47 ∷ ds)))) (ne_eqb d 47 other)

pub named : (k n : ℕ) → IsInRange k n → numbers_of (locator k n) ≡ Some (k, n)
named k n is =
    let digit : decimal k ≡ (48 + k) ∷ [] = decimal_digit k (omega (arith, is.few_steps)) in
    ap (λ (ds : List ℕ). numbers_of (ds ++ 47 ∷ [] ++ decimal n)) digit
    ∙ cut (48 + k) (decimal n) (λ e. omega (arith, e))
    ∙ ap (λ o. in_range o (number_of (decimal n))) (number_is ((48 + k) ∷ []) k (omega (arith, is.few_steps)) (sym digit))
    ∙ ap (λ o. in_range (Some k) o) (number_is (decimal n) n (omega (arith, is.few)) refl)
    ∙ in_range_some k n is

pub only : (text : List ℕ) (k n : ℕ) → numbers_of text ≡ Some (k, n) → IsInRange k n
only text k n e = (in_range_first (number_of (before text)) (number_of (after text)) k n e).2

pub written : (text : List ℕ) (k n : ℕ) → numbers_of text ≡ Some (k, n) → text ≡ locator k n
written text k n e =
    let parts = in_range_first (number_of (before text)) (number_of (after text)) k n e in
    go parts.0 parts.1 (cases_lt (position_or_len (λ b. nat_eq b 47) text) (length text))
  where
    go : number_of (before text) ≡ Some k → number_of (after text) ≡ Some n → (position_or_len (λ b. nat_eq b 47) text < length text) ⊎ (length text ≤ position_or_len (λ b. nat_eq b 47) text) → text ≡ locator k n
    go first second (inl there) =
        let slash : get_or text (position_or_len (λ b. nat_eq b 47) text) 0 ≡ 47 = eqb-true _ 47 (passes_at_first (λ b. nat_eq b 47) text 0 there) in
        split_at_first (λ b. nat_eq b 47) text 0 there
        ∙ ap (λ b. before text ++ b ∷ after text) slash
        ∙ ap (λ (ds : List ℕ). ds ++ 47 ∷ after text) (number_so (before text) k first)
        ∙ ap (λ (ds : List ℕ). decimal k ++ 47 ∷ ds) (number_so (after text) n second)
        ∙ sym (append_assoc (decimal k) (47 ∷ []) (decimal n))
    go first second (inr none) =
        let nothing : after text ≡ [] = drop_all text (position_or_len (λ b. nat_eq b 47) text + 1) (omega (arith, none)) in
        let blank : number_of (after text) ≡ None = ap number_of nothing ∙ no_digits in
        absurd cc

-- ---- a text that is cut at its first slash

module _ (text a b : List ℕ) (front : a ≡ before text) (back : b ≡ after text) where
  pub both_there : (k n : ℕ) → k < 2 ^ 32 → n < 2 ^ 32 → a ≡ decimal k → b ≡ decimal n → in_range (Some k) (Some n) ≡ numbers_of text
  both_there k n small few first second =
      ap (λ o. in_range o (Some n)) (sym (number_is (before text) k (omega (arith, small)) (sym front ∙ first)))
      ∙ ap (λ o. in_range (number_of (before text)) o) (sym (number_is (after text) n (omega (arith, few)) (sym back ∙ second)))
