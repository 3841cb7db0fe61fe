-- What data files in memory give the relations that a command needs.
use Rattle.std.specs.Prelude.{◌≡◌, ◌≤◌, ℕ, List, Contains, Option, Some, IsSomeAnd, IsOkAnd, slice_get}
use Rattle.meaning.specs.declared.types.Fact.{Fact}
use Rattle.meaning.specs.declared.types.Relation.{Relation}
use Rattle.access_schema.specs.declared.schema.Schema.{Schema}
use Rattle.access_schema.specs.declared.schema.SourceLine.{SourceLine}
use Rattle.source_trait.specs.Asking.{Rises, Seen, facts_of}
use Rattle.source_trait.specs.Lanes.{source_of}
use Rattle.source_trait.specs.Outside.{bytes_of}
use Rattle.source_trait.specs.declared.lanes.Kind.{Kind}
use Rattle.middleware.specs.PlanSources.{line_for}
use Rattle.middleware.specs.Held.{SameFacts}
use Rattle.csv_sources.specs.DataFile.{offered}
use Rattle.csv_sources.specs.Folder.{IsFresh, size_together}
use Rattle.csv_sources.specs.declared.folder.TheConstants.{SUM_LIMIT}
use Rattle.pdq_core.specs.Complete.{located}

-- Each of the relations has a source line of the kind.
abbrev pub AllHaveKind : Schema → (ℕ → Type 0) → List ℕ → Type 0
AllHaveKind schema IsNeeded kind = (rel : ℕ) → IsNeeded rel → IsSomeAnd (line_for rel schema.sources) (λ line. line.kind ≡ kind)

-- Each of the relations has a source line of the kind and a data file with just the rows of the instance, and any of these files keep
-- the limit on all attached files together.
pub record FilesGive (schema : Schema) (IsNeeded : ℕ → Type 0) (kind : List ℕ) (files : List (List ℕ × List ℕ)) (instance : List Fact) : Type 0 where
  pub lines : AllHaveKind schema IsNeeded kind
  pub rows : (rel : ℕ) (relation : Relation) (line : SourceLine) → IsNeeded rel → slice_get schema.relations rel ≡ Some relation → line_for rel schema.sources ≡ Some line →
      IsOkAnd (offered (bytes_of files line.locator) relation.columns) (λ rows. SameFacts rel (facts_of rel rows) instance)
  pub fits : (rels : List ℕ) → Rises rels → ((rel : ℕ) → Contains rels rel → IsNeeded rel) → size_together (Some files) (located schema kind rels) ≤ SUM_LIMIT

-- A lane has a new folder of the files under the kind, where they are told.
pub record HasFolder {S : Type 0} (seen : S → Seen) (kind : List ℕ) (told : Option (List (List ℕ × List ℕ))) (kinds : List (Kind S)) : Type 0 where
  pub folder : S
  pub faults : ℕ
  pub there : source_of kinds kind ≡ Some folder
  pub fresh : IsFresh (seen folder) told faults
