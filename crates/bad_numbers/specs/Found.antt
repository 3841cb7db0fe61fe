-- What is found of several parts, taken together.
use Rattle.std.specs.Prelude.{◌≡◌, ◌⊎◌, ◌<◌, ◌≤◌, ◌||◌, ◌&&◌, ℕ, Bool, min, nat_eq, nat_lt, nat_le, if◌then◌else◌, Option, None, Some, MatchOption, option_map}
use Rattle.meaning.specs.declared.types.Fact.{Fact}
use Rattle.meaning.specs.declared.types.SchemaParts.{SchemaParts}
use Rattle.meaning.specs.Matching.{itself}
use Rattle.meaning.specs.Sorts.{AreSorted}
use Rattle.access_schema.specs.BadValues.{IsOtherAt}
use Rattle.bad_numbers.specs.declared.found.BadNumber.{BadNumber}

-- the lower of two columns
abbrev pub lower_of : Option ℕ → Option ℕ → Option ℕ
lower_of None second = second
lower_of (Some column) None = Some column
lower_of (Some column) (Some other) = Some (min column other)

-- ---- bad numbers of several relations

-- what was found of rows of the relation
abbrev pub of_relation : ℕ → Option ℕ → Option BadNumber
of_relation rel found = option_map (λ column. record { rel = rel; column = column }) found

-- the one stands before the other, or where it does: its relation is lower, or its column of the same relation is not higher
abbrev pub stands_first : BadNumber → BadNumber → Bool
stands_first one other = nat_lt one.rel other.rel || (nat_eq one.rel other.rel && nat_le one.column other.column)

-- the earlier of two
abbrev pub earlier_of : Option BadNumber → Option BadNumber → Option BadNumber
earlier_of None second = second
earlier_of (Some one) None = Some one
earlier_of (Some one) (Some other) = Some (if stands_first one other then one else other)

-- One of the facts is of the relation and has another value at this integer column.
abbrev pub IsBadAmong : SchemaParts → (Fact → Type 0) → ℕ → ℕ → Type 0
IsBadAmong schema IsOne rel column = (fact : Fact) × IsOne fact × (fact.rel ≡ rel) × IsOtherAt schema fact column

-- It is the least column of the least such relation.
pub record IsFirstBad (schema : SchemaParts) (IsOne : Fact → Type 0) (found : BadNumber) : Type 0 where
  pub bad : IsBadAmong schema IsOne found.rel found.column
  pub first : (other its : ℕ) → IsBadAmong schema IsOne other its → (found.rel < other) ⊎ ((found.rel ≡ other) × (found.column ≤ its))

-- What is found of facts: the first bad number, and none exactly where each has integers at its integer columns.
abbrev pub FindsAmong : SchemaParts → (Fact → Type 0) → Option BadNumber → Type 0
FindsAmong schema IsOne found = MatchOption found ((fact : Fact) → IsOne fact → AreSorted itself schema fact.rel fact.row) (IsFirstBad schema IsOne)
