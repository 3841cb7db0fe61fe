use Rattle.std.proofs.Common.{◌≡◌, ◌∙◌, ℕ, ◌<◌, ◌≤◌, ◌^◌, List, Option, Some, None, MatchOption, true, sym, arith}
use Rattle.std.specs.Fmt.{decimal}
use Rattle.std.specs.Str.{all_ascii_digits}
use Rattle.lists.specs.Digits.{value_from, begins_plain}
use Rattle.lists.proofs.Digits.{plain_decimal, not_plain, not_within}
use Rattle.lists.proofs.decimals.decimal_up_to.Goals as goal

number_read : (ds : List ℕ) (limit : ℕ) (r : Option ℕ) → limit < 2 ^ 64 → begins_plain ds ≡ true
    → MatchOption r (all_ascii_digits ds ≡ true → limit < value_from 0 ds)
    (λ n. (all_ascii_digits ds ≡ true) × (value_from 0 ds ≡ n) × (n ≤ limit))
    → MatchOption r ((n : ℕ) → n ≤ limit → ds ≡ decimal n → ⊥) (λ n. (ds ≡ decimal n) × (n ≤ limit))
number_read ds limit None fits plain past = λ n low is. not_within ds n limit fits low past is
number_read ds limit (Some n) fits plain (digits, value, low) = (plain_decimal ds n (omega arith) plain digits value, low)

pub returns-then-begins_plain : goal.returns-then-begins_plain
returns-then-begins_plain c =
    number_read c.args.digits.now c.args.limit c.value_within.result c.ranges.limit.fits
    (sym c.begins_plain.ensures ∙ c.if-begins_plain.true) c.value_within.ensures

pub returns-else-begins_plain : goal.returns-else-begins_plain
returns-else-begins_plain c n low is =
    not_plain c.args.digits.now n (omega arith) (sym c.begins_plain.ensures ∙ c.if-begins_plain.false) is
