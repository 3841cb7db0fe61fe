-- The generator: for each k the relation over the numbers below n that leads each number to the one k further on, counted round from n
-- to 0; and the locators `k/n` at which these relations lie.
use Rattle.std.specs.Prelude.{◌≡◌, ◌&&◌, ◌+◌, ◌%◌, ◌<◌, ◌≤◌, ◌++◌, ℕ, List, [], ◌∷◌, length, map, Option, None, Some, nat_eq, nat_le, if◌then◌else◌, codes, Result, Ok, Err}
use Rattle.std.specs.Cmp.Lexicographic.{pointwise}
use Rattle.std.specs.Fmt.{decimal}
use Rattle.std.specs.List.{AllByRecursion, range_with_len, before_first, after_first}
use Rattle.pq_text.specs.Numbers.{value_of}
use Rattle.source_trait.specs.Asking.{RowList, Rises}
use Rattle.source_trait.specs.declared.source.AttachFault.{AttachFault}
use Rattle.source_trait.specs.declared.source.AttachFault.TheVariants.{Missing, BadHeader}

-- the row of a number: itself, and the number that it leads to
abbrev pub row_of : ℕ → ℕ → ℕ → List (List ℕ)
row_of k n i = decimal i ∷ decimal ((i + k) % n) ∷ []

-- the rows of the numbers below n, in their order
abbrev pub rows_of : ℕ → ℕ → RowList
rows_of k n = map (row_of k n) (range_with_len 0 n)

-- ---- locators

abbrev pub locator : ℕ → ℕ → List ℕ
locator k n = decimal k ++ codes "/" ++ decimal n

-- k is 1 to 8, and n is 1 to 10,000
pub record IsInRange (k n : ℕ) : Type 0 where
  pub some_step : 1 ≤ k
  pub few_steps : k ≤ 8
  pub some : 1 ≤ n
  pub few : n ≤ 10000

-- the number that is written so, in digits without a leading zero
abbrev pub number_of : List ℕ → Option ℕ
number_of digits = if pointwise nat_eq digits (decimal (value_of digits)) then Some (value_of digits) else None

-- two numbers, where they are in range
abbrev pub in_range : Option ℕ → Option ℕ → Option (ℕ × ℕ)
in_range None count = None
in_range (Some k) None = None
in_range (Some k) (Some n) = if nat_le 1 k && nat_le k 8 && (nat_le 1 n && nat_le n 10000) then Some (k, n) else None

-- the numbers that stand before and behind the first slash, where they are in range
abbrev pub numbers_of : List ℕ → Option (ℕ × ℕ)
numbers_of text = in_range (number_of (before_first (λ b. nat_eq b 47) text)) (number_of (after_first (λ b. nat_eq b 47) text))

-- ---- what is offered

abbrev pub rows_or : Option (ℕ × ℕ) → ℕ → Result RowList AttachFault
rows_or None columns = Err Missing
rows_or (Some p) columns = if nat_eq columns 2 then Ok (rows_of p.0 p.1) else Err (BadHeader 0)

-- what an attach of so many columns would take
abbrev pub offered : List ℕ → ℕ → Result RowList AttachFault
offered text columns = rows_or (numbers_of text) columns

-- ---- requests

-- positions of a row of two values, which rise, and one value for each
abbrev pub IsPairKey : List ℕ → List (List ℕ) → Type 0
IsPairKey positions values = Rises positions × AllByRecursion (λ p. p < 2) positions × (length values ≡ length positions)
