-- Rows of selects and of heads.
use Rattle.std.specs.Prelude.{◌≡◌, ◌≤◌, ◌↔◌, List, All, Contains, Option, None, length}
use Rattle.meaning.specs.declared.types.Term.{Term}
use Rattle.meaning.specs.declared.types.Fact.{Fact}
use Rattle.meaning.specs.declared.types.Val.{Val}
use Rattle.meaning.specs.declared.types.SchemaParts.{SchemaParts}
use Rattle.meaning.specs.declared.types.Select.{Select}
use Rattle.meaning.specs.Values.{Row}
use Rattle.meaning.specs.Answers.{AnswersSelect}
use Rattle.meaning.specs.Conjunctive.{SelectFits}
use Rattle.homomorphism.specs.declared.assignment.Assignment.{Assignment}
use Rattle.homomorphism.specs.Texts.{row_of}
use Rattle.sql_conjunctive.specs.declared.limits.TheConstants.{MOST_FROMS}

-- A select has few FROM items where they are within the limit.
abbrev pub HasFew : Select → Type 0
HasFew select = length select.froms ≤ MOST_FROMS

-- A select fits a schema and has few FROM items.
pub record FitsWithFew (schema : SchemaParts) (select : Select) : Type 0 where
  pub fits : SelectFits schema select
  pub few : HasFew select

-- Rows are those of selects where they are exactly the answers of one of them.
abbrev pub AreRowsOf : List Fact → List Select → List Row → Type 0
AreRowsOf facts selects rows =
    (row : Row) → Contains rows row ↔ ((select : Select) × Contains selects select × AnswersSelect select facts row)

-- No value is given.
abbrev pub AreFree : List (Option Val) → Type 0
AreFree fixed = All (λ value. value ≡ None) fixed

-- The row of a head under an assignment.
abbrev pub head_under : List Term → Assignment → Row
head_under head assignment = row_of head assignment.vals
