-- Instances of a relational schema (Benedikt, Leblay, ten Cate and Tsamoura 2016).
use Rattle.std.specs.Prelude.{◌≡◌, ℕ, List, Contains, length, slice_get, Some}
use Rattle.meaning.specs.declared.types.Relation.{Relation}
use Rattle.meaning.specs.declared.types.SchemaParts.{SchemaParts}
use Rattle.meaning.specs.declared.types.Fact.{Fact}

-- A list fits a relation where it has one member for each of the relation's columns.
pub record FitsRelation {X : Type 0} (schema : SchemaParts) (rel : ℕ) (members : List X) : Type 0 where
  pub relation : Relation
  pub there : slice_get schema.relations rel ≡ Some relation
  pub width : length members ≡ length relation.columns

-- A list of facts is an instance where each fact has a row that fits its relation.
abbrev pub IsInstance : SchemaParts → List Fact → Type 0
IsInstance schema facts = (fact : Fact) → Contains facts fact → FitsRelation schema fact.rel fact.row

-- An instance is within another where each of its facts is a fact of the other.
abbrev pub IsWithin : List Fact → List Fact → Type 0
IsWithin first second = (fact : Fact) → Contains first fact → Contains second fact
