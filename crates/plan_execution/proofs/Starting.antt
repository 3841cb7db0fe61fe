-- What is known of a plan's relations once they are attached.
use Rattle.std.proofs.Common.{◌≡◌, ◌↔◌, inl, ◌<◌, ℕ, zero, suc, List, [], ◌∷◌, length, refl, sym, subst, arith}
use Rattle.std.specs.Prelude.{Contains, Result, Ok}
use Rattle.meaning.specs.declared.types.Branch.{Branch}
use Rattle.meaning.specs.declared.types.Plan.{Plan}
use Rattle.access_schema.specs.declared.schema.Schema.{Schema}
use Rattle.source_trait.specs.Asking.{Seen}
use Rattle.source_trait.specs.declared.lanes.Lane.{Lane}
use Rattle.middleware.specs.PlanSources.{line_for, IsAccessed}
use Rattle.middleware.specs.Branches.{AreAskable}
use Rattle.middleware.specs.Needs.{needed, AttachesNeeded}
use Rattle.middleware.specs.Needs.AttachesNeeded.{done}
use Rattle.middleware.specs.LaneBranches.{OnEach}
use Rattle.middleware.specs.LaneRunning.{IsAttachedTo}
use Rattle.middleware.specs.declared.fault.RunFault.{RunFault}
use Rattle.middleware.proofs.Attached.{order_attached_to, attached_askable}
use Rattle.middleware.proofs.Lacking.{rises_strictly, the_line}
use Rattle.middleware.proofs.LaneStays.{attached_each, attach_long}
use Rattle.middleware.proofs.Needing.{needed_alike}
use Rattle.middleware.proofs.Planning.{accessed_by}
use Rattle.middleware.proofs.Starting.{relation_of}
use Rattle.plan_execution.specs.Running.{needed_by}

module _ (schema : Schema) (plan : Plan) where
  -- the list of what is accessed, for each lane
  listed_so : (rels : List ℕ) → ((rel : ℕ) → Contains rels rel ↔ IsAccessed schema plan rel) → (place rel : ℕ)
      → needed rels rels place rel ↔ needed_by schema plan place rel
  listed_so rels exactly zero rel = exactly rel
  listed_so rels exactly (suc place) rel = exactly rel

  module _ {S : Type 0} (seen : S → Seen) where
    -- attaches of the list are attaches of what the plan accesses
    pub attaches_plan : (rels lent : List ℕ) → lent ≡ rels
        → ((rel : ℕ) → Contains rels rel ↔ IsAccessed schema plan rel) → (old new : List (Lane S))
        (result : Result (Unit {0}) RunFault) → AttachesNeeded seen schema (needed lent lent) old new result
        → AttachesNeeded seen schema (needed_by schema plan) old new result
    attaches_plan rels lent is exactly = needed_alike (needed lent lent) (needed_by schema plan)
        (listed_so lent (subst (λ (l : List ℕ). (rel : ℕ) → Contains l rel ↔ IsAccessed schema plan rel)
        (sym is) exactly)) seen schema

    -- once they are attached, there is a lane for each of them
    pub some_lane : (old new : List (Lane S)) → AttachesNeeded seen schema (needed_by schema plan) old new (Ok tt)
        → (rel : ℕ)
        → IsAccessed schema plan rel → 0 < length new
    some_lane [] new (done each have) rel a =
        let (line, is) = the_line (line_for rel schema.sources) (have.lines rel (0, a)) in
        absurd (have.kinds rel line (0, a) is (inl refl))
    some_lane (w ∷ ws) new (done each have) rel a =
        let long = attach_long seen schema each.rels (w ∷ ws) new each.order in omega (arith, long)

    -- and each lane has attached them
    pub each_attached : (old new : List (Lane S)) → AttachesNeeded seen schema (needed_by schema plan) old new (Ok tt)
        → (rel : ℕ)
        → IsAccessed schema plan rel → OnEach new (IsAttachedTo seen schema rel)
    each_attached old new (done each have) rel a =
        let (line, line_is) = the_line (line_for rel schema.sources) (have.lines rel (0, a)) in
        let (relation, relation_is) = relation_of schema plan rel a in
        attached_each seen schema (IsAttachedTo seen schema rel) each.rels
        (λ place before after order. order_attached_to seen schema (each.rels place)
        (rises_strictly (each.rels place) (each.are place).ascends) rel
        (((each.are place).exactly rel).1 a) relation line relation_is line_is before after order)
        old new each.order

    -- so the methods of the plan may be asked
    pub all_askable : (lanes : List (Lane S))
        → ((rel : ℕ) → IsAccessed schema plan rel → OnEach lanes (IsAttachedTo seen schema rel))
        → (its : Branch) → Contains plan.branches its → OnEach lanes (λ kinds. AreAskable seen schema kinds its.steps)
    all_askable lanes attached its c lane there step method among named =
        attached_askable seen schema method named.0 lane.kinds.items
        (attached method.rel (accessed_by schema plan its step method c among named) lane there)
