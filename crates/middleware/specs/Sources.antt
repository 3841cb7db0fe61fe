-- The relations of a plan as lists, their places on lanes, and how far their attaches came.
use Rattle.std.specs.Prelude.{◌≡◌, ◌⊎◌, ◌<◌, ℕ, zero, suc, Bool, true, false, List, [], ◌∷◌, length, Contains, Option, None, Some, IsSome, slice_get, take, Err, if◌then◌else◌}
use Rattle.std.specs.Option.{is_some}
use Rattle.meaning.specs.declared.types.Method.{Method}
use Rattle.meaning.specs.declared.types.Relation.{Relation}
use Rattle.meaning.specs.declared.types.Step.{Step}
use Rattle.meaning.specs.declared.types.Branch.{Branch}
use Rattle.meaning.specs.Plans.{IsMethod}
use Rattle.access_schema.specs.declared.schema.Schema.{Schema}
use Rattle.access_schema.specs.declared.schema.SourceLine.{SourceLine}
use Rattle.access_schema.specs.Meaning.{meaning_of}
use Rattle.source_trait.specs.Asking.{Seen}
use Rattle.source_trait.specs.Lanes.{names_of, place_from}
use Rattle.source_trait.specs.declared.source.AttachFault.{AttachFault}
use Rattle.source_trait.specs.declared.source.AttachFault.TheVariants.{NoMemory as NoRoom}
use Rattle.source_trait.specs.declared.lanes.Kind.{Kind}
use Rattle.source_trait.specs.declared.lanes.Lane.{Lane}
use Rattle.middleware.specs.PlanSources.{line_for}
use Rattle.middleware.specs.Attaching.{AttachesOne, AttachesInOrder}
use Rattle.middleware.specs.declared.fault.RunFault.{RunFault}
use Rattle.middleware.specs.declared.fault.RunFault.TheVariants as fault

-- the step accesses the relation
pub record StepAccesses (schema : Schema) (step : Step) (rel : ℕ) : Type 0 where
  pub method : Method
  pub named : IsMethod (meaning_of schema) step.method method
  pub of_relation : method.rel ≡ rel

-- some of the steps accesses the relation
pub record StepsAccess (schema : Schema) (steps : List Step) (rel : ℕ) : Type 0 where
  pub step : Step
  pub among : Contains steps step
  pub accesses : StepAccesses schema step rel

-- the first relation without a source line
abbrev pub first_lineless : List SourceLine → List ℕ → Option ℕ
first_lineless lines [] = None
first_lineless lines (rel ∷ rels) = if is_some (line_for rel lines) then first_lineless lines rels else Some rel

-- whether there is a source line, and a place of its kind
abbrev pub has_place : List (List ℕ) → Option SourceLine → Bool
has_place names None = false
has_place names (Some line) = is_some (place_from 0 line.kind names)

-- the relation is one of the schema, and its source line has a place on the lane
pub record IsPlaced {S : Type 0} (schema : Schema) (kinds : List (Kind S)) (rel : ℕ) : Type 0 where
  pub relation : Relation
  pub line : SourceLine
  pub relation_is : slice_get schema.relations rel ≡ Some relation
  pub line_is : line_for rel schema.sources ≡ Some line
  pub place : IsSome (place_from 0 line.kind (names_of kinds))

-- The relations before this one were attached in order, and then it was refused.
pub record AttachBreaks {S : Type 0} (seen : S → Seen) (schema : Schema) (rels : List ℕ) (rel : ℕ) (fault : AttachFault) (old new : List (Kind S)) : Type 0 where
  pub n : ℕ
  pub at : slice_get rels n ≡ Some rel
  pub middle : List (Kind S)
  pub attached : AttachesInOrder seen schema (take n rels) old middle
  pub refused : AttachesOne seen schema rel (Err fault) middle new

-- a step of some of the branches accesses the relation
pub record BranchesAccess (schema : Schema) (branches : List Branch) (rel : ℕ) : Type 0 where
  pub branch : Branch
  pub among : Contains branches branch
  pub accesses : StepsAccess schema branch.steps rel

-- ---- a relation on several lanes

-- whether the lane at a place needs a relation that the first lane does, and each further one where this says so
abbrev pub needs_at : Bool → ℕ → Bool
needs_at by_others zero = true
needs_at by_others (suc place) = by_others

-- there is a lane, and each one that needs the relation has a place for its source line
pub record HavePlace {S : Type 0} (lanes : List (Lane S)) (lines : List SourceLine) (rel : ℕ) (IsNeeded : ℕ → Type 0) : Type 0 where
  pub some : 0 < length lanes
  pub each : (place : ℕ) (lane : Lane S) → slice_get lanes place ≡ Some lane → IsNeeded place
      → has_place (names_of lane.kinds.items) (line_for rel lines) ≡ true

-- there is no lane, or one that needs the relation has none
abbrev pub LackPlace : {S : Type 0} → List (Lane S) → List SourceLine → ℕ → (ℕ → Type 0) → Type 0
LackPlace {S} lanes lines rel IsNeeded = (lanes ≡ [])
    ⊎ ((place : ℕ) × (lane : Lane S) × (slice_get lanes place ≡ Some lane) × IsNeeded place
    × (has_place (names_of lane.kinds.items) (line_for rel lines) ≡ false))

-- the first of the relations whose line lacks a place
pub record LacksPlace {S : Type 0} (lanes : List (Lane S)) (lines : List SourceLine) (rels : List ℕ) (IsNeeded : ℕ → ℕ → Type 0) (rel : ℕ)
    : Type 0 where
  pub n : ℕ
  pub at : slice_get rels n ≡ Some rel
  pub lacks : LackPlace lanes lines rel (λ place. IsNeeded place rel)
  pub before : (k other : ℕ) → k < n → slice_get rels k ≡ Some other → HavePlace lanes lines other (λ place. IsNeeded place other)

-- a refusal of an attach as that of the attaches on all lanes
abbrev pub refused_as : ℕ → AttachFault → RunFault
refused_as rel NoRoom = fault.NoMemory
refused_as rel why = fault.Attach rel why
