-- Answers of SQL's selects, which are conjunctive queries (Chandra and Merlin 1977), and of statements.
use Rattle.std.specs.Prelude.{◌≡◌, ℕ, List, [], Contains, map, slice_index_or}
use Rattle.std.specs.List.{AllZip}
use Rattle.meaning.specs.declared.types.Fact.{Fact}
use Rattle.meaning.specs.declared.types.Operand.{Operand}
use Rattle.meaning.specs.declared.types.Condition.{Condition}
use Rattle.meaning.specs.declared.types.Select.{Select}
use Rattle.meaning.specs.declared.types.Statement.{Statement}
use Rattle.meaning.specs.declared.types.Operand.TheVariants.{Column, Literal}
use Rattle.meaning.specs.Values.{Value, Row}
use Rattle.meaning.specs.Matching.{FactsOf}

-- A choice is one row for each FROM item, of a fact of that item's relation.
abbrev pub IsChoice : List Fact → List ℕ → List Row → Type 0
IsChoice facts froms rows = AllZip (FactsOf facts) froms rows

-- The value of a column is the chosen row's there, and the value of a literal is the literal.
abbrev pub operand_value : List Row → Operand → Value
operand_value rows (Column from column) = slice_index_or (slice_index_or rows from []) column []
operand_value rows (Literal text) = text

-- A choice meets conditions where the two sides of each have equal values.
abbrev pub MeetsConditions : List Row → List Condition → Type 0
MeetsConditions rows conditions =
    (condition : Condition) → Contains conditions condition →
    operand_value rows condition.left ≡ operand_value rows condition.right

-- A row answers a select where some choice meets the conditions and the row is the values of the items.
abbrev pub AnswersSelect : Select → List Fact → Row → Type 0
AnswersSelect select facts row =
    (rows : List Row) × IsChoice facts select.froms rows × MeetsConditions rows select.conditions
    × (row ≡ map (operand_value rows) select.items)

-- A row answers a statement where it answers one of its selects.
abbrev pub Answers : Statement → List Fact → Row → Type 0
Answers statement facts row = (select : Select) × Contains statement.selects select × AnswersSelect select facts row
