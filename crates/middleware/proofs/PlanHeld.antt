-- What lanes hold for a plan, before and after requests.
use Rattle.meaning.specs.declared.types.Fact.{Fact}
use Rattle.meaning.specs.declared.types.Plan.{Plan}
use Rattle.std.proofs.Common.{List}
use Rattle.access_schema.specs.declared.schema.Schema.{Schema}
use Rattle.source_trait.specs.Asking.{Seen}
use Rattle.source_trait.specs.declared.lanes.Lane.{Lane}
use Rattle.middleware.specs.Held.{HoldPlan}
use Rattle.middleware.specs.LaneBranches.{LanesHoldPlan}
use Rattle.middleware.proofs.Branching.{relation_earlier, relation_later}
use Rattle.middleware.proofs.LaneShares.{OnlyAsked, each_earlier, each_later}

module _ {S : Type 0} (seen : S → Seen) (schema : Schema) (plan : Plan) (old new : List (Lane S))
    (only : OnlyAsked seen schema old new)
    (instance : List Fact) where
  pub plan_held_earlier : LanesHoldPlan seen schema plan new instance → LanesHoldPlan seen schema plan old instance
  plan_held_earlier holds = each_earlier seen schema (λ kinds. HoldPlan seen schema plan kinds instance)
      (λ list a b asks h rel line accessed is. relation_earlier seen schema list a b asks line.kind rel instance
      (h rel line accessed is)) old new only holds

  pub plan_held_later : LanesHoldPlan seen schema plan old instance → LanesHoldPlan seen schema plan new instance
  plan_held_later holds = each_later seen schema (λ kinds. HoldPlan seen schema plan kinds instance)
      (λ list a b asks h rel line accessed is. relation_later seen schema list a b asks line.kind rel instance
      (h rel line accessed is)) old new only holds
