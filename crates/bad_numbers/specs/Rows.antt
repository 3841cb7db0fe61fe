-- Rows and the sorts of their columns: other values than integers at integer columns.
use Rattle.std.specs.Prelude.{◌≡◌, ◌≤◌, ℕ, List, [], Option, None, Some, MatchOption, Contains, slice_get}
use Rattle.meaning.specs.declared.types.Relation.{Relation}
use Rattle.meaning.specs.declared.types.Sort.{Sort}
use Rattle.meaning.specs.declared.types.Sort.TheVariants.{Int}
use Rattle.meaning.specs.Values.{Row, Value}
use Rattle.meaning.specs.Integers.{IsInteger}

-- the sorts of the columns of a relation; none where there is no relation
abbrev pub sorts_in : Option Relation → List Sort
sorts_in None = []
sorts_in (Some relation) = relation.sorts

-- each row that has a value in the column has an integer there
abbrev pub AreIntegersAt : List Row → ℕ → Type 0
AreIntegersAt rows column = (row : Row) (value : Value) → Contains rows row → slice_get row column ≡ Some value → IsInteger value

-- one of the rows has another value in the column
abbrev pub HasOtherAt : List Row → ℕ → Type 0
HasOtherAt rows column = (row : Row) × (value : Value) × Contains rows row × (slice_get row column ≡ Some value) × (IsInteger value → ⊥)

-- the least integer column at which one of the rows has another value
pub record IsOtherColumn (sorts : List Sort) (rows : List Row) (column : ℕ) : Type 0 where
  pub int : slice_get sorts column ≡ Some Int
  pub other : HasOtherAt rows column
  pub least : (its : ℕ) → slice_get sorts its ≡ Some Int → HasOtherAt rows its → column ≤ its

-- what is found of the rows
abbrev pub FindsOther : List Sort → List Row → Option ℕ → Type 0
FindsOther sorts rows found = MatchOption found ((column : ℕ) → slice_get sorts column ≡ Some Int → AreIntegersAt rows column) (IsOtherColumn sorts rows)
