-- Values at integer columns that are no integers.
use Rattle.std.specs.Prelude.{◌≡◌, ◌<◌, ℕ, List, Some, slice_get}
use Rattle.meaning.specs.declared.types.Fact.{Fact}
use Rattle.meaning.specs.declared.types.SchemaParts.{SchemaParts}
use Rattle.meaning.specs.declared.types.Sort.{Sort}
use Rattle.meaning.specs.declared.types.Sort.TheVariants.{Int}
use Rattle.meaning.specs.Values.{Value}
use Rattle.meaning.specs.Integers.{IsInteger}
use Rattle.meaning.specs.Sorts.{HoldsIntegers}

-- the column holds integers, and the fact has another value there
abbrev pub IsOtherAt : SchemaParts → Fact → ℕ → Type 0
IsOtherAt schema fact column = (value : Value) × HoldsIntegers schema fact.rel column × (slice_get fact.row column ≡ Some value) × (IsInteger value → ⊥)

-- the column is the first such
pub record IsFirstOther (schema : SchemaParts) (fact : Fact) (column : ℕ) : Type 0 where
  pub other : IsOtherAt schema fact column
  pub first : (lower : ℕ) → lower < column → IsOtherAt schema fact lower → ⊥

-- the same of a row and the sorts of its columns
abbrev pub IsOtherIn : List Sort → List Value → ℕ → Type 0
IsOtherIn sorts row column = (value : Value) × (slice_get sorts column ≡ Some Int) × (slice_get row column ≡ Some value) × (IsInteger value → ⊥)
