-- What the lanes of a batch hold, and what that says of an answer.
use Rattle.std.proofs.Common.{◌≡◌, ◌↔◌, ℕ, List, Option, None, Some, sym, ◌∙◌, ap, subst}
use Rattle.std.specs.Prelude.{Contains, IfSome, IsSomeAnd}
use Rattle.meaning.specs.declared.types.Fact.{Fact}
use Rattle.meaning.specs.declared.types.Plan.{Plan}
use Rattle.meaning.specs.declared.types.Request.{Request}
use Rattle.access_schema.specs.declared.schema.Schema.{Schema}
use Rattle.source_trait.specs.Asking.{RowList, Seen, pick}
use Rattle.source_trait.specs.Lanes.{source_of}
use Rattle.source_trait.specs.declared.lanes.Kind.{Kind}
use Rattle.source_trait.specs.declared.lanes.Lane.{Lane}
use Rattle.source_trait.specs.declared.work.Ask.{Ask}
use Rattle.middleware.specs.PlanSources.{IsAccessed}
use Rattle.middleware.specs.Held.{SameFacts, HoldsRelation}
use Rattle.middleware.specs.LaneAsking.{LanesHoldRelation}
use Rattle.middleware.specs.Asked.{AsksLane}
use Rattle.middleware.specs.Attaching.{TellsSame}
use Rattle.middleware.specs.LaneBranches.{OnEach, LanesHoldPlan}
use Rattle.middleware.specs.LaneRunning.{IsAttachedTo}
use Rattle.middleware.specs.LaneRounds.{AsksEach, Gives, HasItsKind, IsAnswer}
use Rattle.middleware.proofs.Branching.{relation_later}
use Rattle.middleware.proofs.LaneBranching.{each_asked}
use Rattle.middleware.proofs.LaneShares.{each_later}
use Rattle.middleware.proofs.LaneValues.{picked_through}
use Rattle.plan_batches.specs.Batching.{LanesHoldAll}

module _ {S : Type 0} (seen : S → Seen) (schema : Schema) where
  -- who holds the relations of all plans holds those of each
  pub plan_of_all : (plans : List Plan) (lanes : List (Lane S)) (instance : List Fact) (plan : Plan) → Contains plans plan
      → LanesHoldAll seen schema plans lanes instance → LanesHoldPlan seen schema plan lanes instance
  plan_of_all plans lanes instance plan of holds lane among rel line accessed is = holds lane among rel line (plan, of, accessed) is

  pub relation_of_plan : (plan : Plan) (lanes : List (Lane S)) (instance : List Fact) (rel : ℕ) → IsAccessed schema plan rel
      → LanesHoldPlan seen schema plan lanes instance → LanesHoldRelation seen schema rel lanes instance
  relation_of_plan plan lanes instance rel accessed holds line is lane among = holds lane among rel line accessed is

  -- requests leave what is held
  pub relation_onward : (requests : List Request) (old new : List (Lane S)) → AsksEach seen schema requests old new → (rel : ℕ) (instance : List Fact)
      → LanesHoldRelation seen schema rel old instance → LanesHoldRelation seen schema rel new instance
  relation_onward requests old new asks rel instance holds line is =
      each_later seen schema (λ kinds. HoldsRelation seen kinds line.kind rel instance)
      (λ list a b asked h. relation_later seen schema list a b asked line.kind rel instance h)
      old new (each_asked seen schema requests old new asks) (holds line is)

  -- the rows of an answer are those of the facts that the request asks for
  pub answer_picks : (lanes : List (Lane S)) (ask : Ask) → HasItsKind schema ask → (rows : RowList) → IsAnswer seen lanes ask rows → (instance : List Fact)
      → LanesHoldRelation seen schema ask.request.rel lanes instance
      → (row : List (List ℕ)) → Contains rows row ↔ Contains (pick instance ask.request.rel ask.request.positions ask.request.values) row
  answer_picks lanes ask its rows is instance holds row =
      go (source_of is.lane.kinds.items ask.kind) is.gives
      (subst (λ k. IsSomeAnd (source_of is.lane.kinds.items k) (λ s. IsSomeAnd ((seen s).held) (λ facts. SameFacts ask.request.rel facts instance))) (sym its.kind)
      (holds its.line its.line_is is.lane is.among))
    where
      by_held : (held : Option (List Fact)) → IfSome held (λ facts. rows ≡ pick facts ask.request.rel ask.request.positions ask.request.values)
          → IsSomeAnd held (λ facts. SameFacts ask.request.rel facts instance)
          → Contains rows row ↔ Contains (pick instance ask.request.rel ask.request.positions ask.request.values) row
      by_held None picks same = absurd same
      by_held (Some facts) picks same =
          let t = picked_through facts instance ask.request.rel ask.request.positions ask.request.values same row in (
            (λ c. t.0 (subst (λ (l : RowList). Contains l row) picks c)),
            (λ c. subst (λ (l : RowList). Contains l row) (sym picks) (t.1 c)),
          )

      go : (o : Option S) → IsSomeAnd o (Gives seen ask.request rows)
          → IsSomeAnd o (λ s. IsSomeAnd ((seen s).held) (λ facts. SameFacts ask.request.rel facts instance))
          → Contains rows row ↔ Contains (pick instance ask.request.rel ask.request.positions ask.request.values) row
      go None gives same = absurd gives
      go (Some s) gives same = by_held ((seen s).held) gives.picks same

  attached_still : (rel : ℕ) (requests : List Request) (a b : List (Kind S)) → AsksLane seen schema requests a b → IsAttachedTo seen schema rel a
      → IsAttachedTo seen schema rel b
  attached_still rel requests a b asks h = record {
    relation = h.relation;
    line = h.line;
    relation_is = h.relation_is;
    line_is = h.line_is;
    attached = go (source_of a h.line.kind) (source_of b h.line.kind) (asks.tells h.line.kind) h.attached;
  }
    where
      go : (o p : Option S) → TellsSame seen o p → IsSomeAnd o (λ s. (seen s).attached rel ≡ Some (h.relation.columns, h.line.locator))
          → IsSomeAnd p (λ s. (seen s).attached rel ≡ Some (h.relation.columns, h.line.locator))
      go None p same at = absurd at
      go (Some s) None same at = absurd same
      go (Some s) (Some t) same at = ap (λ f. f rel) same.1 ∙ at

  -- requests leave what is attached
  pub attached_onward : (requests : List Request) (old new : List (Lane S)) → AsksEach seen schema requests old new → (rel : ℕ)
      → OnEach old (IsAttachedTo seen schema rel) → OnEach new (IsAttachedTo seen schema rel)
  attached_onward requests old new asks rel all = each_later seen schema (IsAttachedTo seen schema rel)
      (attached_still rel) old new (each_asked seen schema requests old new asks) all
