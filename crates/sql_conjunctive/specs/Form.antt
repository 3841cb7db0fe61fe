-- The conjunctive form of a select (Chandra and Merlin 1977): a query, or that no instance has an answer.
use Rattle.std.specs.Prelude.{◌≡◌, ◌≢◌, ◌⊎◌, List, Contains}
use Rattle.meaning.specs.declared.types.Fact.{Fact}
use Rattle.meaning.specs.declared.types.Query.{Query}
use Rattle.meaning.specs.declared.types.Operand.TheVariants.{Literal}
use Rattle.meaning.specs.declared.types.Condition.{Condition}
use Rattle.meaning.specs.declared.types.Select.{Select}
use Rattle.meaning.specs.Values.{Row, Value}
use Rattle.meaning.specs.Matching.{AnswersQuery}
use Rattle.meaning.specs.Triggers.{bound}
use Rattle.meaning.specs.Conjunctive.{AreJoined}
use Rattle.access_schema.specs.Invariant.{terms_of, AreInOrder}
use Rattle.sql_conjunctive.specs.declared.form.Conjunctive.{Conjunctive}
use Rattle.sql_conjunctive.specs.declared.form.Conjunctive.TheVariants as form

-- Conditions clash where they make two different literals equal.
abbrev pub Clashes : List Condition → Type 0
Clashes conditions = (a : Value) × (b : Value) × (a ≢ b) × AreJoined conditions (Literal a) (Literal b)

-- The form says that there is never an answer.
abbrev pub IsNever : Conjunctive → Type 0
IsNever form.Never = Unit {0}
IsNever (form.Query query) = ⊥

-- A fact of the query, where the form is one.
abbrev pub IfQuery : Conjunctive → (Query → Type 0) → Type 0
IfQuery form.Never P = Unit {0}
IfQuery (form.Query query) P = P query

-- A query is numbered where its variables are numbered from 0 by first occurrence, and counted.
pub record IsNumbered (query : Query) : Type 0 where
  pub in_order : AreInOrder (terms_of query.atoms)
  pub variables : query.variables ≡ bound query.atoms

-- The list has each literal of the select.
pub record HaveLiterals (constants : List Value) (select : Select) : Type 0 where
  pub items : (c : Value) → Contains select.items (Literal c) → Contains constants c
  pub conditions : (condition : Condition) (c : Value) → Contains select.conditions condition →
      (condition.left ≡ Literal c) ⊎ (condition.right ≡ Literal c) → Contains constants c

-- A row answers a form where it answers the query; Never has no answer.
abbrev pub AnswersForm : Conjunctive → List Fact → Row → Type 0
AnswersForm form.Never facts row = ⊥
AnswersForm (form.Query query) facts row = AnswersQuery query facts row
