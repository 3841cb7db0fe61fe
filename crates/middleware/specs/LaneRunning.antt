-- What it means that a relation is attached on a lane.
use Rattle.std.specs.Prelude.{◌≡◌, ℕ, List, Some, slice_get}
use Rattle.meaning.specs.declared.types.Relation.{Relation}
use Rattle.access_schema.specs.declared.schema.Schema.{Schema}
use Rattle.access_schema.specs.declared.schema.SourceLine.{SourceLine}
use Rattle.source_trait.specs.Asking.{Seen}
use Rattle.source_trait.specs.Lanes.{AtKind}
use Rattle.source_trait.specs.declared.lanes.Kind.{Kind}
use Rattle.middleware.specs.PlanSources.{line_for}

-- the relation is attached on the lane with its columns and the locator of its source line
pub record IsAttachedTo {S : Type 0} (seen : S → Seen) (schema : Schema) (rel : ℕ) (kinds : List (Kind S)) : Type 0 where
  pub relation : Relation
  pub line : SourceLine
  pub relation_is : slice_get schema.relations rel ≡ Some relation
  pub line_is : line_for rel schema.sources ≡ Some line
  pub attached : AtKind kinds line.kind (λ s. (seen s).attached rel ≡ Some (relation.columns, line.locator))
