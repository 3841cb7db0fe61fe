-- Which relations become attached on a lane, and how.
use Rattle.std.specs.Prelude.{◌≡◌, ◌⊎◌, ◌↔◌, ℕ, List, [], ◌∷◌, Contains, Option, IfSome, IsOk, slice_get, Some, None, Result, Ok}
use Rattle.std.specs.List.Sorted.{IsStrictlyIncreasing}
use Rattle.meaning.specs.declared.types.Relation.{Relation}
use Rattle.meaning.specs.declared.types.Plan.{Plan}
use Rattle.access_schema.specs.declared.schema.Schema.{Schema}
use Rattle.access_schema.specs.declared.schema.SourceLine.{SourceLine}
use Rattle.source_trait.specs.Asking.{Seen, AttachGives, pick}
use Rattle.source_trait.specs.Lanes.{names_of, place_from, source_of, StepsOn, KindsStay}
use Rattle.source_trait.specs.declared.source.AttachFault.{AttachFault}
use Rattle.source_trait.specs.declared.lanes.Kind.{Kind}
use Rattle.middleware.specs.PlanSources.{line_for, IsAccessed, IsPlanSource}

-- each source stays, or is the first of its kind and made the step
abbrev pub OnlyFirst : {S : Type 0} → (List ℕ → S → S → Type 0) → List (Kind S) → List (Kind S) → Type 0
OnlyFirst {S} step old new = (place : ℕ) (before after : Kind S) → slice_get old place ≡ Some before → slice_get new place ≡ Some after →
    (after ≡ before) ⊎ ((place_from 0 before.name (names_of old) ≡ Some place) × step before.name before.object after.object)

-- The relation is attached with its columns and its locator. Where the offer is told it was one of rows, and they are the
-- rows that are held, where that is told.
pub record IsAttached {S : Type 0} (seen : S → Seen) (rel : ℕ) (relation : Relation) (line : SourceLine) (old new : List (Kind S)) : Type 0 where
  pub before : S
  pub after : S
  pub was : source_of old line.kind ≡ Some before
  pub now : source_of new line.kind ≡ Some after
  pub attached : (seen after).attached rel ≡ Some (relation.columns, line.locator)
  pub offered : IfSome ((seen before).offer rel relation.columns line.locator) IsOk
  pub held : IfSome ((seen before).offer rel relation.columns line.locator) (λ offer. IfSome ((seen after).held) (λ facts. offer ≡ Ok (pick facts rel [] [])))

-- the source of the relation's line was asked to attach it, and nothing else on the lane changed
pub record AttachesOne {S : Type 0} (seen : S → Seen) (schema : Schema) (rel : ℕ) (result : Result (Unit {0}) AttachFault) (old new : List (Kind S)) : Type 0 where
  pub relation : Relation
  pub line : SourceLine
  pub relation_is : slice_get schema.relations rel ≡ Some relation
  pub line_is : line_for rel schema.sources ≡ Some line
  pub steps : StepsOn old new line.kind (λ s t. AttachGives (seen s) (seen t) rel relation.columns line.locator result)

-- the relations were attached, one after another
abbrev pub AttachesInOrder : {S : Type 0} → (S → Seen) → Schema → List ℕ → List (Kind S) → List (Kind S) → Type 0
AttachesInOrder seen schema [] old new = new ≡ old
AttachesInOrder {S} seen schema (rel ∷ rels) old new =
    (middle : List (Kind S)) × AttachesOne seen schema rel (Ok tt) old middle × AttachesInOrder seen schema rels middle new

-- Each relation of the plan was attached once, in ascending order, and nothing else was done.
pub record AttachesEach {S : Type 0} (seen : S → Seen) (schema : Schema) (plan : Plan) (old new : List (Kind S)) : Type 0 where
  pub rels : List ℕ
  pub ascends : IsStrictlyIncreasing rels
  pub exactly : (rel : ℕ) → Contains rels rel ↔ IsAccessed schema plan rel
  pub order : AttachesInOrder seen schema rels old new

-- two sources of a kind tell the same, but for their requests and faults
abbrev pub TellsSame : {S : Type 0} → (S → Seen) → Option S → Option S → Type 0
TellsSame seen None None = Unit {0}
TellsSame seen (Some s) (Some t) =
    ((seen t).held ≡ (seen s).held) × ((seen t).attached ≡ (seen s).attached) × ((seen t).offer ≡ (seen s).offer) × ((seen t).passes ≡ (seen s).passes)
TellsSame seen None (Some t) = ⊥
TellsSame seen (Some s) None = ⊥

-- Nothing that the lane's sources tell changed, but for their requests and faults. An attach may change what passes the limit.
pub record OnlyAsks {S : Type 0} (seen : S → Seen) (old new : List (Kind S)) : Type 0 where
  pub stay : KindsStay seen old new
  pub tells : (kind : List ℕ) → TellsSame seen (source_of old kind) (source_of new kind)

-- Each relation of the plan was attached once, in ascending order, and from then on the sources were only asked. So each is attached.
pub record AllAttached {S : Type 0} (seen : S → Seen) (schema : Schema) (plan : Plan) (old new : List (Kind S)) : Type 0 where
  pub middle : List (Kind S)
  pub attaches : AttachesEach seen schema plan old middle
  pub asks : OnlyAsks seen middle new
  pub each : (rel : ℕ) (relation : Relation) (line : SourceLine) → IsPlanSource schema plan rel relation line →
      IsAttached seen rel relation line old new
