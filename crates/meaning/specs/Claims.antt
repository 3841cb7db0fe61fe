-- What is claimed of plans, and what refutes that there is one
-- (Benedikt, Leblay, ten Cate and Tsamoura 2016, access-monotonic determinacy).
use Rattle.std.specs.Prelude.{List}
use Rattle.meaning.specs.declared.types.SchemaParts.{SchemaParts}
use Rattle.meaning.specs.declared.types.Fact.{Fact}
use Rattle.meaning.specs.declared.types.Statement.{Statement}
use Rattle.meaning.specs.declared.types.Plan.{Plan}
use Rattle.meaning.specs.Values.{Value, Row}
use Rattle.meaning.specs.Instances.{IsInstance}
use Rattle.meaning.specs.Matching.{Meets}
use Rattle.meaning.specs.Answers.{Answers}
use Rattle.meaning.specs.Access.{IsAccessible}
use Rattle.meaning.specs.Rows.{IsRow}

-- A model of a schema is an instance of it that meets its rules.
pub record IsModel (schema : SchemaParts) (facts : List Fact) : Type 0 where
  pub fits : IsInstance schema facts
  pub meets : Meets facts schema

-- A plan is equivalent to a statement where on every model its rows are the statement's answers.
pub record IsEquivalent (plan : Plan) (statement : Statement) (schema : SchemaParts) : Type 0 where
  pub sound : (facts : List Fact) (row : Row) → IsModel schema facts →
      IsRow schema plan facts row → Answers statement facts row
  pub complete : (facts : List Fact) (row : Row) → IsModel schema facts →
      Answers statement facts row → IsRow schema plan facts row

-- Two models and a row refute every plan where the first's accessible part is within the second's, and the row is an
-- answer on the first and not on the second.
pub record Refutes (schema : SchemaParts) (constants : List Value) (statement : Statement)
    (first second : List Fact) (row : Row) : Type 0 where
  pub first_meets : IsModel schema first
  pub second_meets : IsModel schema second
  pub included : (fact : Fact) → IsAccessible schema constants first fact → IsAccessible schema constants second fact
  pub answered : Answers statement first row
  pub not_answered : Answers statement second row → ⊥
