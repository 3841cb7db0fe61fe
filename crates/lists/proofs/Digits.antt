-- Digits and the numbers that they stand for. Crates above cite these lemmas.
use Rattle.std.proofs.Common.{◌≡◌, ◌∙◌, ℕ, zero, suc, ◌+◌, ◌-◌, ◌*◌, ◌^◌, ◌<◌, ◌≤◌, ◌/◌, ◌%◌, Bool, true, false, List, [], ◌∷◌, ◌++◌, length, get_or, refl, sym, ap, arith, rules}
use Rattle.std.specs.Prelude.{not, nat_eq}
use Rattle.std.specs.Char.{is_ascii_digit}
use Rattle.std.specs.Fmt.{decimal}
use Rattle.std.specs.Str.{all_ascii_digits}
use Rattle.std.proofs.lemmas.Bool.{eqb-true, eq-eqb}
use Rattle.std.proofs.lemmas.Fmt.{decimal_by_steps, decimal-digits_value, digits_decimal, digits_value-decimal}
use Rattle.std.proofs.lemmas.Str.Parse.{IsNumeralModel, numerals_by_fold}
use Rattle.lists.specs.Digits.{value_from, begins_plain}
use Rattle.lists.proofs.Booleans.{first_true}

-- more digits stand for no less
pub value_ge : (ds : List ℕ) (n : ℕ) → n ≤ value_from n ds
value_ge [] n = omega arith
value_ge (d ∷ ds) n = let more = value_ge ds (n * 10 + (d - 48)) in omega arith

-- a digit stands first, and a zero only alone
abbrev pub BeginsPlain : ℕ → List ℕ → Type 0
BeginsPlain n [] = ⊥
BeginsPlain n (d ∷ ds) = (48 ≤ d) × (d ≤ 57) × (0 < n → 49 ≤ d) × (n ≡ 0 → ds ≡ [])

begins_more : (n : ℕ) (ds : List ℕ) → 10 ≤ n → BeginsPlain (n / 10) ds → BeginsPlain n (ds ++ ((48 + n % 10) ∷ []))
begins_more n [] high plain = absurd plain
begins_more n (d ∷ ds) high plain =
    let low = plain.0 in
    let top = plain.1 in
    let some : 0 < n / 10 = omega arith in
    let first = plain.2 some in
    (low, top, λ _. first, λ e. absurd (omega (arith, e)))

pub decimal_begins : (n : ℕ) → n < 2 ^ 64 → BeginsPlain n (decimal n)
decimal_begins n fits = decimal_by_steps BeginsPlain (λ m low. (omega arith, omega arith, λ some. omega (arith, some), λ e. refl)) begins_more n fits

-- ---- the digits of a number

pub value_numerals : IsNumeralModel (λ ds. all_ascii_digits ds ≡ true) (value_from 0)
value_numerals = numerals_by_fold _ (search rules) value_from (search rules)

pub decimal_digits : (n : ℕ) → n < 2 ^ 64 → all_ascii_digits (decimal n) ≡ true
decimal_digits n fits = digits_decimal value_numerals n fits

pub decimal_value : (n : ℕ) → n < 2 ^ 64 → value_from 0 (decimal n) ≡ n
decimal_value n fits = digits_value-decimal value_numerals n fits

not_equal : (d : ℕ) (t : Bool) → nat_eq d 48 ≡ t → 49 ≤ d → not t ≡ true
not_equal d true e high = absurd (omega (arith, eqb-true d 48 e))
not_equal d false e high = refl

plain_begins : (n : ℕ) (ds : List ℕ) → BeginsPlain n ds → begins_plain ds ≡ true
plain_begins n [] plain = absurd plain
plain_begins n (d ∷ []) plain = refl
plain_begins zero (d ∷ e ∷ ds) plain = let none = plain.3 refl in absurd cc
plain_begins (suc n) (d ∷ e ∷ ds) plain = not_equal d (nat_eq d 48) refl (plain.2 (omega arith))

pub decimal_plain : (n : ℕ) → n < 2 ^ 64 → begins_plain (decimal n) ≡ true
decimal_plain n fits = plain_begins n (decimal n) (decimal_begins n fits)

-- what the test of the first byte says
first_digit : (ds : List ℕ) → begins_plain ds ≡ true → (0 < length ds) × (get_or ds 0 0 ≡ 48 → length ds ≡ 1)
first_digit [] e = absurd cc
first_digit (d ∷ []) e = (omega arith, λ _. refl)
first_digit (d ∷ f ∷ ds) e = (omega arith, λ zeros. absurd (let same : nat_eq d 48 ≡ true = eq-eqb d 48 zeros in cc))

-- digits that begin so are those of the number that they stand for
pub plain_decimal : (ds : List ℕ) (n : ℕ) → n < 2 ^ 64 → begins_plain ds ≡ true → all_ascii_digits ds ≡ true → value_from 0 ds ≡ n → ds ≡ decimal n
plain_decimal ds n fits plain digits is =
    let first = first_digit ds plain in
    sym (decimal-digits_value value_numerals ds digits first.0 first.1 (omega (arith, is))) ∙ ap decimal is

pub not_plain : (ds : List ℕ) (n : ℕ) → n < 2 ^ 64 → begins_plain ds ≡ false → ds ≡ decimal n → ⊥
not_plain ds n fits other is =
    let plain = decimal_plain n fits in
    let here : begins_plain ds ≡ true = ap begins_plain is ∙ plain in
    cc

-- digits that stand for more than a limit are those of no number up to it
pub not_within : (ds : List ℕ) (n limit : ℕ) → limit < 2 ^ 64 → n ≤ limit → (all_ascii_digits ds ≡ true → limit < value_from 0 ds) → ds ≡ decimal n → ⊥
not_within ds n limit fits low past is =
    let below : n < 2 ^ 64 = omega arith in
    let over = past (ap all_ascii_digits is ∙ decimal_digits n below) in
    let value : value_from 0 ds ≡ n = ap (value_from 0) is ∙ decimal_value n below in
    omega arith

-- ---- digit by digit

pub past_limit : (ds left : List ℕ) (value limit : ℕ) → 1 ≤ length left → (is_ascii_digit (get_or left 0 0) ≡ true → limit < value * 10 + (get_or left 0 0 - 48))
    → all_ascii_digits ds ≡ all_ascii_digits left → value_from 0 ds ≡ value_from value left → all_ascii_digits ds ≡ true → limit < value_from 0 ds
past_limit ds [] value limit some over digits so_far all = absurd (omega arith)
past_limit ds (d ∷ left) value limit some over digits so_far all =
    let large = over (first_true (is_ascii_digit d) (all_ascii_digits left) (sym digits ∙ all)) in
    let least = value_ge left (value * 10 + (d - 48)) in
    omega (arith, so_far)
