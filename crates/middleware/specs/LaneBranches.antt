-- What holds on each lane, and a call that failed on one of them.
use Rattle.std.specs.Prelude.{◌≡◌, ℕ, true, List, Contains, slice_get, Some}
use Rattle.meaning.specs.declared.types.Fact.{Fact}
use Rattle.meaning.specs.declared.types.Plan.{Plan}
use Rattle.meaning.specs.declared.types.Request.{Request}
use Rattle.access_schema.specs.declared.schema.Schema.{Schema}
use Rattle.source_trait.specs.Asking.{Seen}
use Rattle.source_trait.specs.declared.lanes.Kind.{Kind}
use Rattle.source_trait.specs.declared.lanes.Lane.{Lane}
use Rattle.middleware.specs.Held.{HoldPlan}
use Rattle.middleware.specs.Branches.{RoseAt}
use Rattle.middleware.specs.LaneRounds.{FailsLast}

-- it holds of the sources of each lane
abbrev pub OnEach : {S : Type 0} → List (Lane S) → (List (Kind S) → Type 0) → Type 0
OnEach {S} lanes P = (lane : Lane S) → Contains lanes lane → P lane.kinds.items

module _ {S : Type 0} (seen : S → Seen) (schema : Schema) where
  -- each lane holds the relations of the plan with just the facts of the instance
  abbrev pub LanesHoldPlan : Plan → List (Lane S) → List Fact → Type 0
  LanesHoldPlan plan lanes instance = OnEach lanes (λ kinds. HoldPlan seen schema plan kinds instance)

  -- A call of one of the lanes failed, for one of these requests of the relation, which is the last that the lane was asked: the count
  -- of faults of its source of the relation rose, and the lane is stopped.
  pub record FailsOnLane (rel : ℕ) (requests : List Request) (old new : List (Lane S)) : Type 0 where
    pub place : ℕ
    pub before : Lane S
    pub after : Lane S
    pub was : slice_get old place ≡ Some before
    pub now : slice_get new place ≡ Some after
    pub request : Request
    pub among : Contains requests request
    pub last : FailsLast seen schema request before.kinds.items after.kinds.items
    pub rose : RoseAt seen schema rel before.kinds.items after.kinds.items
    pub stopped : after.stopped ≡ true
