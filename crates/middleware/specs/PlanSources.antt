-- The relations that a plan accesses, and where the schema says that their rows lie.
use Rattle.std.specs.Prelude.{◌≡◌, ℕ, List, [], ◌∷◌, Contains, Option, None, Some, slice_get, nat_eq, if◌then◌else◌}
use Rattle.meaning.specs.declared.types.Method.{Method}
use Rattle.meaning.specs.declared.types.Relation.{Relation}
use Rattle.meaning.specs.declared.types.Step.{Step}
use Rattle.meaning.specs.declared.types.Branch.{Branch}
use Rattle.meaning.specs.declared.types.Plan.{Plan}
use Rattle.meaning.specs.Plans.{IsMethod}
use Rattle.access_schema.specs.declared.schema.Schema.{Schema}
use Rattle.access_schema.specs.declared.schema.SourceLine.{SourceLine}
use Rattle.access_schema.specs.Meaning.{meaning_of}

-- the source line of a relation
abbrev pub line_for : ℕ → List SourceLine → Option SourceLine
line_for rel [] = None
line_for rel (line ∷ lines) = if nat_eq line.rel rel then Some line else line_for rel lines

-- some step of the plan accesses the relation
pub record IsAccessed (schema : Schema) (plan : Plan) (rel : ℕ) : Type 0 where
  pub branch : Branch
  pub step : Step
  pub method : Method
  pub of_plan : Contains plan.branches branch
  pub of_branch : Contains branch.steps step
  pub named : IsMethod (meaning_of schema) step.method method
  pub of_relation : method.rel ≡ rel

-- a relation that the plan accesses, and its source line
pub record IsPlanSource (schema : Schema) (plan : Plan) (rel : ℕ) (relation : Relation) (line : SourceLine) : Type 0 where
  pub accessed : IsAccessed schema plan rel
  pub relation_is : slice_get schema.relations rel ≡ Some relation
  pub line_is : line_for rel schema.sources ≡ Some line
