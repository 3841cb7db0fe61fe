-- Relations that are asked whole, one after another.
use Rattle.std.specs.Prelude.{◌≡◌, ◌⊎◌, ◌++◌, ℕ, List, [], ◌∷◌, IsSome, Some, slice_get, take, Result, Ok, Err}
use Rattle.meaning.specs.declared.types.Fact.{Fact}
use Rattle.access_schema.specs.declared.schema.Schema.{Schema}
use Rattle.access_schema.specs.declared.schema.SourceLine.{SourceLine}
use Rattle.access_schema.specs.Meaning.{meaning_of}
use Rattle.bad_numbers.specs.Numbers.{HaveIntegers, IsBadColumn}
use Rattle.source_trait.specs.Asking.{RowList, Seen, CallGives, facts_of}
use Rattle.source_trait.specs.Lanes.{AtKind, StepsOn}
use Rattle.source_trait.specs.declared.source.CallFault.{CallFault}
use Rattle.source_trait.specs.declared.source.CallFault.TheVariants as call
use Rattle.source_trait.specs.declared.lanes.Kind.{Kind}
use Rattle.middleware.specs.PlanSources.{line_for}
use Rattle.rule_rows.specs.declared.fault.WholeFault.{WholeFault}
use Rattle.rule_rows.specs.declared.fault.WholeFault.TheVariants as fault

-- The source of the relation's line has attached it.
pub record IsReady {S : Type 0} (seen : S → Seen) (schema : Schema) (kinds : List (Kind S)) (rel : ℕ) : Type 0 where
  pub line : SourceLine
  pub line_is : line_for rel schema.sources ≡ Some line
  pub attached : AtKind kinds line.kind (λ s. IsSome ((seen s).attached rel))

-- The source of the relation's line was asked for all its rows, and nothing else on the lane changed.
pub record AsksOne {S : Type 0} (seen : S → Seen) (schema : Schema) (rel : ℕ) (result : Result RowList CallFault) (old new : List (Kind S)) : Type 0 where
  pub line : SourceLine
  pub line_is : line_for rel schema.sources ≡ Some line
  pub steps : StepsOn old new line.kind (λ s t. CallGives (seen s) (seen t) rel [] [] result)

-- The relations were asked for whole, one after another, each gave integers at integer columns, and the facts are those of the rows that
-- came.
abbrev pub AsksInOrder : {S : Type 0} → (S → Seen) → Schema → List ℕ → List Fact → List (Kind S) → List (Kind S) → Type 0
AsksInOrder seen schema [] facts old new = (facts ≡ []) × (new ≡ old)
AsksInOrder {S} seen schema (rel ∷ rels) facts old new =
    (rows : RowList) × (rest : List Fact) × (middle : List (Kind S)) × (facts ≡ facts_of rel rows ++ rest)
    × AsksOne seen schema rel (Ok rows) old middle × HaveIntegers (meaning_of schema) rel rows × AsksInOrder seen schema rels rest middle new

-- The relations before this one were asked for whole in order, and then its request failed.
pub record AskBreaks {S : Type 0} (seen : S → Seen) (schema : Schema) (rels : List ℕ) (rel : ℕ) (old new : List (Kind S)) : Type 0 where
  pub n : ℕ
  pub at : slice_get rels n ≡ Some rel
  pub facts : List Fact
  pub middle : List (Kind S)
  pub asked : AsksInOrder seen schema (take n rels) facts old middle
  pub failed : AsksOne seen schema rel (Err call.Failed) middle new

-- The relations before this one were asked for whole in order, and then it was, and the column is the least at which one of its rows has
-- another value than an integer.
pub record NumberBreaks {S : Type 0} (seen : S → Seen) (schema : Schema) (rels : List ℕ) (rel column : ℕ) (old new : List (Kind S)) : Type 0 where
  pub n : ℕ
  pub at : slice_get rels n ≡ Some rel
  pub facts : List Fact
  pub middle : List (Kind S)
  pub asked : AsksInOrder seen schema (take n rels) facts old middle
  pub rows : RowList
  pub came : AsksOne seen schema rel (Ok rows) middle new
  pub bad : IsBadColumn (meaning_of schema) rel rows column

-- Some first relations were asked for whole in order, and after them nothing, or the next one, whose request found no memory.
pub record AsksPart {S : Type 0} (seen : S → Seen) (schema : Schema) (rels : List ℕ) (old new : List (Kind S)) : Type 0 where
  pub n : ℕ
  pub facts : List Fact
  pub middle : List (Kind S)
  pub asked : AsksInOrder seen schema (take n rels) facts old middle
  pub last : (new ≡ middle) ⊎ ((rel : ℕ) × (slice_get rels n ≡ Some rel) × AsksOne seen schema rel (Err call.NoMemory) middle new)

-- Why not all relations were asked: memory was wanted, or the request for one failed, or one has a bad number.
pub data AskStop {S : Type 0} (seen : S → Seen) (schema : Schema) (rels : List ℕ) (old new : List (Kind S)) : WholeFault → Type 0 where
  no_memory : AsksPart seen schema rels old new → AskStop seen schema rels old new fault.NoMemory
  failed : (rel : ℕ) → AskBreaks seen schema rels rel old new → AskStop seen schema rels old new (fault.CallFailed rel)
  bad_number : (rel column : ℕ) → NumberBreaks seen schema rels rel column old new → AskStop seen schema rels old new (fault.BadNumber rel column)
