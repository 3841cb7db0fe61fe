-- Bad numbers: values received at integer columns that are no integers.
use Rattle.std.specs.Prelude.{◌≡◌, ◌⊎◌, ◌<◌, ◌≤◌, ℕ, List, Contains, Option, MatchOption}
use Rattle.meaning.specs.declared.types.Fact.{Fact}
use Rattle.meaning.specs.declared.types.Request.{Request}
use Rattle.meaning.specs.declared.types.SchemaParts.{SchemaParts}
use Rattle.meaning.specs.Values.{Row}
use Rattle.meaning.specs.Matching.{itself}
use Rattle.meaning.specs.Sorts.{AreSorted}
use Rattle.meaning.specs.Crawls.{IsReceived}
use Rattle.access_schema.specs.BadValues.{IsOtherAt}

-- ---- rows

-- Each row of the relation has integers at its integer columns.
abbrev pub HaveIntegers : SchemaParts → ℕ → List Row → Type 0
HaveIntegers schema rel rows = (row : Row) → Contains rows row → AreSorted itself schema rel row

-- One of the rows has another value at this integer column.
abbrev pub IsBadAt : SchemaParts → ℕ → List Row → ℕ → Type 0
IsBadAt schema rel rows column = (row : Row) × Contains rows row × IsOtherAt schema (record { rel = rel; row = row }) column

-- It is the least such column.
pub record IsBadColumn (schema : SchemaParts) (rel : ℕ) (rows : List Row) (column : ℕ) : Type 0 where
  pub bad : IsBadAt schema rel rows column
  pub least : (other : ℕ) → IsBadAt schema rel rows other → column ≤ other

-- What is found of rows: the least column with a bad number, and none exactly where there is no such column.
abbrev pub FindsBad : SchemaParts → ℕ → List Row → Option ℕ → Type 0
FindsBad schema rel rows found = MatchOption found (HaveIntegers schema rel rows) (IsBadColumn schema rel rows)

-- ---- what requests receive of an instance

-- Each fact that the requests receive has integers at its integer columns.
abbrev pub ReceiveIntegers : SchemaParts → List Fact → List Request → Type 0
ReceiveIntegers schema facts requests = (fact : Fact) → IsReceived facts requests fact → AreSorted itself schema fact.rel fact.row

-- A fact of the relation that the requests receive has another value at this integer column.
abbrev pub ReceiveBad : SchemaParts → List Fact → List Request → ℕ → ℕ → Type 0
ReceiveBad schema facts requests rel column =
    (fact : Fact) × IsReceived facts requests fact × (fact.rel ≡ rel) × IsOtherAt schema fact column

-- It is the least column of the least such relation.
pub record ReceiveFirstBad (schema : SchemaParts) (facts : List Fact) (requests : List Request) (rel column : ℕ) : Type 0 where
  pub bad : ReceiveBad schema facts requests rel column
  pub first : (other its : ℕ) → ReceiveBad schema facts requests other its → (rel < other) ⊎ ((rel ≡ other) × (column ≤ its))
