-- Which requests the sources of a lane are asked.
use Rattle.std.specs.Prelude.{◌≡◌, ℕ, Bool, false, List, ◌++◌, Option, None, Some, option_map, slice_get, nat_eq}
use Rattle.std.specs.List.{filter, AllZip}
use Rattle.std.specs.Cmp.Lexicographic.{pointwise}
use Rattle.meaning.specs.declared.types.Method.{Method}
use Rattle.meaning.specs.declared.types.Place.{Place}
use Rattle.meaning.specs.declared.types.Place.TheVariants.{Const, Col, New}
use Rattle.meaning.specs.declared.types.Step.{Step}
use Rattle.meaning.specs.declared.types.Request.{Request}
use Rattle.meaning.specs.declared.types.SchemaParts.{SchemaParts}
use Rattle.meaning.specs.Plans.{IsMethod}
use Rattle.access_schema.specs.declared.schema.Schema.{Schema}
use Rattle.access_schema.specs.declared.schema.SourceLine.{SourceLine}
use Rattle.source_trait.specs.Asking.{Seen}
use Rattle.source_trait.specs.Lanes.{source_of, KindsStay}
use Rattle.source_trait.specs.declared.lanes.Kind.{Kind}
use Rattle.middleware.specs.PlanSources.{line_for}
use Rattle.middleware.specs.Attaching.{OnlyFirst, TellsSame}

-- whether a relation's source line has the kind
abbrev pub has_kind : Option SourceLine → List ℕ → Bool
has_kind None kind = false
has_kind (Some line) kind = pointwise nat_eq line.kind kind

-- the requests whose relations have the kind
abbrev pub of_kind : Schema → List ℕ → List Request → List Request
of_kind schema kind requests = filter (λ request. has_kind (line_for request.rel schema.sources) kind) requests

-- The first source of each kind was asked just the requests of its kind, in order.
abbrev pub AskedJust : {S : Type 0} → (S → Seen) → Schema → List Request → List (Kind S) → List (Kind S) → Type 0
AskedJust {S} seen schema requests old new = (kind : List ℕ) (before after : S) → source_of old kind ≡ Some before → source_of new kind ≡ Some after →
    (seen after).asked ≡ option_map (λ asked. asked ++ of_kind schema kind requests) ((seen before).asked)

-- The lane's sources were asked just these requests, and nothing else that they tell changed.
pub record AsksLane {S : Type 0} (seen : S → Seen) (schema : Schema) (requests : List Request) (old new : List (Kind S)) : Type 0 where
  pub stay : KindsStay seen old new
  pub asked : AskedJust seen schema requests old new
  pub only : OnlyFirst (λ kind s t. (seen t).attached ≡ (seen s).attached) old new
  pub tells : (kind : List ℕ) → TellsSame seen (source_of old kind) (source_of new kind)

-- a constant at an input place is the request's value there
abbrev pub HasConstant : Option Place → List ℕ → Type 0
HasConstant None value = ⊥
HasConstant (Some (Const c)) value = value ≡ c
HasConstant (Some (Col k)) value = Unit {0}
HasConstant (Some New) value = ⊥

-- the request has the relation and the input positions of the step's method, and the step's constants at them
pub record IsStepRequest (schema : SchemaParts) (step : Step) (request : Request) : Type 0 where
  pub method : Method
  pub named : IsMethod schema step.method method
  pub of_relation : request.rel ≡ method.rel
  pub positions : request.positions ≡ method.inputs
  pub constants : AllZip (λ p value. HasConstant (slice_get step.places p) value) request.positions request.values
