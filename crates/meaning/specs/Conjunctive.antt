-- A select as a conjunctive query (Chandra and Merlin 1977).
use Rattle.std.specs.Prelude.{◌≡◌, ℕ, ◌<◌, List, [], Contains, map, length, slice_get, Option, Some, None}
use Rattle.std.specs.List.{AllZip}
use Rattle.meaning.specs.declared.types.Term.{Term}
use Rattle.meaning.specs.declared.types.Atom.{Atom}
use Rattle.meaning.specs.declared.types.Relation.{Relation}
use Rattle.meaning.specs.declared.types.SchemaParts.{SchemaParts}
use Rattle.meaning.specs.declared.types.Fact.{Fact}
use Rattle.meaning.specs.declared.types.Query.{Query}
use Rattle.meaning.specs.declared.types.Operand.{Operand}
use Rattle.meaning.specs.declared.types.Condition.{Condition}
use Rattle.meaning.specs.declared.types.Select.{Select}
use Rattle.meaning.specs.declared.types.Statement.{Statement}
use Rattle.meaning.specs.declared.types.Term.TheVariants.{Const}
use Rattle.meaning.specs.declared.types.Operand.TheVariants.{Column, Literal}
use Rattle.meaning.specs.Values.{Row}
use Rattle.meaning.specs.Integers.{IsInteger}
use Rattle.meaning.specs.Sorts.{HoldsIntegers}
use Rattle.meaning.specs.Instances.{FitsRelation, IsInstance}
use Rattle.meaning.specs.Matching.{AnswersQuery}
use Rattle.meaning.specs.Answers.{Answers}

-- The conditions make two operands equal where a chain of them, read both ways, leads from the one to the other.
pub data AreJoined (conditions : List Condition) : Operand → Operand → Type 0 where
  given : (condition : Condition) → Contains conditions condition →
      AreJoined conditions condition.left condition.right
  alike : (o : Operand) → AreJoined conditions o o
  turned : {o p : Operand} → AreJoined conditions o p → AreJoined conditions p o
  chained : {o p q : Operand} → AreJoined conditions o p → AreJoined conditions p q → AreJoined conditions o q

-- A column fits where it is one of its FROM item's relation.
abbrev pub OperandFits : SchemaParts → Select → Operand → Type 0
OperandFits schema select (Literal text) = Unit {0}
OperandFits schema select (Column from column) =
    (rel : ℕ) × (relation : Relation) × (slice_get select.froms from ≡ Some rel)
    × (slice_get schema.relations rel ≡ Some relation) × (column < length relation.columns)

-- A select fits where its FROM items are relations and the operands of its conditions and items fit.
pub record SelectFits (schema : SchemaParts) (select : Select) : Type 0 where
  pub froms : (rel : ℕ) → Contains select.froms rel →
      (relation : Relation) × (slice_get schema.relations rel ≡ Some relation)
  pub conditions : (condition : Condition) → Contains select.conditions condition →
      OperandFits schema select condition.left × OperandFits schema select condition.right
  pub items : (item : Operand) → Contains select.items item → OperandFits schema select item

-- The operand is a column that holds integers.
abbrev pub IsIntegerColumn : SchemaParts → Select → Operand → Type 0
IsIntegerColumn schema select (Literal text) = ⊥
IsIntegerColumn schema select (Column from column) =
    (rel : ℕ) × (slice_get select.froms from ≡ Some rel) × HoldsIntegers schema rel column

-- The operand is an integer column, or the literal of an integer.
abbrev pub IsIntegerSide : SchemaParts → Select → Operand → Type 0
IsIntegerSide schema select (Literal text) = IsInteger text
IsIntegerSide schema select (Column from column) = IsIntegerColumn schema select (Column from column)

-- A condition is sorted where the other side of an integer column is one too, or the literal of an integer.
pub record ConditionIsSorted (schema : SchemaParts) (select : Select) (condition : Condition) : Type 0 where
  pub right : IsIntegerColumn schema select condition.left → IsIntegerSide schema select condition.right
  pub left : IsIntegerColumn schema select condition.right → IsIntegerSide schema select condition.left

-- A select is sorted where each of its conditions is.
abbrev pub SelectIsSorted : SchemaParts → Select → Type 0
SelectIsSorted schema select =
    (condition : Condition) → Contains select.conditions condition → ConditionIsSorted schema select condition

-- The term that there is; where there is none, the empty constant stands in.
abbrev pub or_empty : Option Term → Term
or_empty None = Const []
or_empty (Some term) = term

-- The term of an atom at a column.
abbrev pub term_in : Option Atom → ℕ → Term
term_in None column = Const []
term_in (Some atom) column = or_empty (slice_get atom.terms column)

-- The term of a column is its atom's there, and the term of a literal is the constant.
abbrev pub term_of : List Atom → Operand → Term
term_of atoms (Column from column) = term_in (slice_get atoms from) column
term_of atoms (Literal text) = Const text

-- An atom is one for a FROM item where it is of that relation and has a term for each column.
abbrev pub IsAtomFor : SchemaParts → ℕ → Atom → Type 0
IsAtomFor schema rel atom = (atom.rel ≡ rel) × FitsRelation schema rel atom.terms

-- A query is a select's conjunctive form where it has one atom for each FROM item, two operands have one term exactly
-- where the conditions make them equal, and the head is the terms of the items.
pub record IsConjunctive (schema : SchemaParts) (select : Select) (query : Query) : Type 0 where
  pub atoms : AllZip (IsAtomFor schema) select.froms query.atoms
  pub joined : (condition : Condition) → Contains select.conditions condition →
      term_of query.atoms condition.left ≡ term_of query.atoms condition.right
  pub only : (o p : Operand) → OperandFits schema select o → OperandFits schema select p →
      term_of query.atoms o ≡ term_of query.atoms p → AreJoined select.conditions o p
  pub head : query.head ≡ map (term_of query.atoms) select.items

-- Queries stand for a statement where on every instance their answers together are the statement's.
pub record StandFor (schema : SchemaParts) (queries : List Query) (statement : Statement) : Type 0 where
  pub sound : (facts : List Fact) (row : Row) (query : Query) → IsInstance schema facts → Contains queries query →
      AnswersQuery query facts row → Answers statement facts row
  pub complete : (facts : List Fact) (row : Row) → IsInstance schema facts → Answers statement facts row →
      (query : Query) × Contains queries query × AnswersQuery query facts row
