-- The query of each select of a statement.
use Rattle.std.specs.Prelude.{◌↔◌, List, Option, Some, None}
use Rattle.meaning.specs.declared.types.Fact.{Fact}
use Rattle.meaning.specs.declared.types.Query.{Query}
use Rattle.meaning.specs.declared.types.Select.{Select}
use Rattle.meaning.specs.Values.{Value, Row}
use Rattle.meaning.specs.Instances.{IsInstance}
use Rattle.meaning.specs.Matching.{AnswersQuery}
use Rattle.meaning.specs.Answers.{AnswersSelect}
use Rattle.meaning.specs.Fitting.{QueryFits, QueryHasConstants}
use Rattle.meaning.specs.Conjunctive.{IsConjunctive}
use Rattle.access_schema.specs.declared.schema.Schema.{Schema}
use Rattle.access_schema.specs.Meaning.{meaning_of}
use Rattle.sql_conjunctive.specs.Form.{Clashes, IsNumbered, HaveLiterals}

-- The query is the select's conjunctive form, numbered, without constants that the select lacks, and has its answers. The conditions make no
-- two different literals equal.
pub record IsQueryOf (schema : Schema) (select : Select) (query : Query) : Type 0 where
  pub free : Clashes select.conditions → ⊥
  pub form : IsConjunctive (meaning_of schema) select query
  pub numbered : IsNumbered query
  pub fits : QueryFits (meaning_of schema) query
  pub constants : (known : List Value) → HaveLiterals known select → QueryHasConstants known query
  pub answers : (facts : List Fact) → IsInstance (meaning_of schema) facts → (row : Row) →
      AnswersQuery query facts row ↔ AnswersSelect select facts row

-- The conditions make two different literals equal, and no instance has an answer.
pub record HasNoQuery (schema : Schema) (select : Select) : Type 0 where
  pub clashes : Clashes select.conditions
  pub no_answer : (facts : List Fact) → IsInstance (meaning_of schema) facts → (row : Row) → AnswersSelect select facts row → ⊥

-- A select has its query, or none.
abbrev pub IsSelectForm : Schema → Select → Option Query → Type 0
IsSelectForm schema select (Some query) = IsQueryOf schema select query
IsSelectForm schema select None = HasNoQuery schema select
