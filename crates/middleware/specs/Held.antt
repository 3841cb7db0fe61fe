-- The instance that the sources of a lane hold, as far as it is needed.
use Rattle.std.specs.Prelude.{◌≡◌, ◌↔◌, ℕ, List, Contains, Some, IsSomeAnd}
use Rattle.meaning.specs.declared.types.Fact.{Fact}
use Rattle.meaning.specs.declared.types.Plan.{Plan}
use Rattle.access_schema.specs.declared.schema.Schema.{Schema}
use Rattle.access_schema.specs.declared.schema.SourceLine.{SourceLine}
use Rattle.source_trait.specs.Asking.{Seen}
use Rattle.source_trait.specs.Lanes.{AtKind}
use Rattle.source_trait.specs.declared.lanes.Kind.{Kind}
use Rattle.middleware.specs.PlanSources.{line_for, IsAccessed}

-- the facts of one relation are the same in both
abbrev pub SameFacts : ℕ → List Fact → List Fact → Type 0
SameFacts rel facts others = (row : List (List ℕ)) → Contains facts (record { rel = rel; row = row }) ↔ Contains others (record { rel = rel; row = row })

-- the source of the kind tells what it holds, and of the relation it holds just the facts of the instance
abbrev pub HoldsRelation : {S : Type 0} → (S → Seen) → List (Kind S) → List ℕ → ℕ → List Fact → Type 0
HoldsRelation seen kinds kind rel instance = AtKind kinds kind (λ s. IsSomeAnd ((seen s).held) (λ facts. SameFacts rel facts instance))

-- each relation that is needed of the lane is held, where its source line says, with just the facts of the instance
abbrev pub HoldNeeded : {S : Type 0} → (S → Seen) → Schema → (ℕ → Type 0) → List (Kind S) → List Fact → Type 0
HoldNeeded seen schema IsNeeded kinds instance = (rel : ℕ) (line : SourceLine) → IsNeeded rel → line_for rel schema.sources ≡ Some line
    → HoldsRelation seen kinds line.kind rel instance

-- each relation of the plan is
abbrev pub HoldPlan : {S : Type 0} → (S → Seen) → Schema → Plan → List (Kind S) → List Fact → Type 0
HoldPlan seen schema plan kinds instance = HoldNeeded seen schema (IsAccessed schema plan) kinds instance
