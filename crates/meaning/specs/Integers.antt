-- Integers of 64 bits as values: each has one spelling.
use Rattle.std.specs.Prelude.{◌≡◌, ◌≤◌, ◌<◌, ◌^◌, ◌++◌, ◌⊎◌, ℕ, codes}
use Rattle.std.specs.Fmt.{decimal}
use Rattle.meaning.specs.Values.{Value}

-- A value is an integer where it is a number of 64 bits with a sign, in digits without a leading zero.
abbrev pub IsInteger : Value → Type 0
IsInteger value =
    ((n : ℕ) × (n < 2 ^ 63) × (value ≡ decimal n)) ⊎ ((n : ℕ) × (1 ≤ n) × (n ≤ 2 ^ 63) × (value ≡ codes "-" ++ decimal n))
