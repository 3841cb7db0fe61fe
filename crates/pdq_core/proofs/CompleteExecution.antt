-- An execution, or a delivery, is stopped by nothing but a lack of memory, where the sources of each lane serve and hold integers at their
-- integer columns, and the cap is kept.
use Rattle.std.proofs.Common.{◌≡◌, ℕ, zero, suc, List, [], ◌∷◌, ◌++◌, map, Option, Err, refl, sym, ◌∙◌, subst, arith}
use Rattle.std.specs.Prelude.{◌↔◌, Contains}
use Rattle.std.specs.List.Sorted.{IsStrictlyIncreasing}
use Rattle.lists.proofs.Members.{contains_got}
use Rattle.meaning.specs.declared.types.Plan.{Plan}
use Rattle.access_schema.specs.declared.schema.Schema.{Schema}
use Rattle.source_trait.specs.Asking.{Seen}
use Rattle.source_trait.specs.Lanes.{KindsStay, LanesStay}
use Rattle.source_trait.specs.declared.lanes.Kind.{Kind}
use Rattle.source_trait.specs.declared.lanes.Lane.{Lane}
use Rattle.source_trait.proofs.LaneSteps.{LanesStay-trans}
use Rattle.middleware.specs.declared.fault.Run.{Run}
use Rattle.middleware.specs.declared.fault.RunFault.{RunFault}
use Rattle.middleware.specs.declared.fault.RunFault.TheVariants as fault
use Rattle.middleware.specs.PlanSources.{IsAccessed}
use Rattle.middleware.specs.Attaching.{AllAttached}
use Rattle.middleware.specs.Needs.{LanesAttach, EachAttached}
use Rattle.middleware.specs.Needs.AttachesNeeded.{done}
use Rattle.middleware.specs.LaneRounds.{started}
use Rattle.plan_execution.specs.PlanRounds.{CallFails, NumberFails, CapFills, PlanHalts}
use Rattle.plan_execution.specs.Running.{needed_by, AsksRounds, AttachesAndAsks}
use Rattle.plan_execution.specs.Running.AttachesAndAsks.{not_attached, attached}
use Rattle.plan_execution.specs.Executing.{Executes}
use Rattle.middleware.proofs.Attached.{order_attached, attached_after}
use Rattle.middleware.proofs.Lacking.{rises_strictly}
use Rattle.middleware.proofs.LaneShares.{OnlyAsked, AsksEach-trans}
use Rattle.middleware.proofs.LaneBranching.{each_asked}
use Rattle.middleware.proofs.PlanHeld.{plan_held_earlier}
use Rattle.middleware.proofs.LaneStays.{started_stay, asked_stay, attach_stay}
use Rattle.command_io.specs.declared.stop.Stop.{Stop}
use Rattle.command_io.specs.declared.stop.Stop.TheVariants as stop
use Rattle.command_io.specs.Executing.{stop_of_run, ExecutesOrStops, Delivers}
use Rattle.pdq_core.specs.Complete.{OnLanes, AtPlaces, Serve, HoldWithin, CanExecute}
use Rattle.pdq_core.proofs.CompleteTexts.{delivered_stop}
use Rattle.pdq_core.proofs.CompleteSources.{none_rose}
use Rattle.pdq_core.proofs.CompleteIntegers.{none_bad}
use Rattle.pdq_core.proofs.CompleteAttaches.{at_place, from_place, attaches_stop}

module _ {S : Type 0} (seen : S → Seen) (schema : Schema) (plan : Plan) where
  abbrev Serves : List (Kind S) → List (Kind S) → Type 0
  Serves = Serve seen schema (IsAccessed schema plan)

  -- on lanes that attached the relations of the plan, and then were only asked, all of them are attached
  pub all_attached : (old ready new : List (Lane S)) → EachAttached seen schema (needed_by schema plan) old ready →
      OnlyAsked seen schema (map started ready) new → OnLanes (AllAttached seen schema plan) old new
  all_attached old ready new each asked = go each.rels (λ place. ((each.are place).ascends, (each.are place).exactly)) old ready new each.order asked
    where
      go : (rels : ℕ → List ℕ) → ((place : ℕ) → IsStrictlyIncreasing (rels place) × ((rel : ℕ) → Contains (rels place) rel ↔ IsAccessed schema plan rel)) →
          (old ready new : List (Lane S)) → LanesAttach seen schema rels old ready → OnlyAsked seen schema (map started ready) new →
          OnLanes (AllAttached seen schema plan) old new
      go rels are [] [] [] order asked = tt
      go rels are [] [] (u ∷ us) order asked = absurd asked
      go rels are [] (v ∷ vs) new order asked = absurd order
      go rels are (w ∷ ws) [] new order asked = absurd order
      go rels are (w ∷ ws) (v ∷ vs) [] order asked = absurd asked
      go rels are (w ∷ ws) (v ∷ vs) (u ∷ us) order asked = (
        record {
          middle = v.kinds.items;
          attaches = record { rels = rels zero; ascends = (are zero).0; exactly = (are zero).1; order = order.0.order };
          asks = record { stay = asked.0.1.stay; tells = asked.0.1.tells };
          each = λ rel relation line source. attached_after seen schema rel relation line asked.0.0 w.kinds.items v.kinds.items u.kinds.items asked.0.1
              (order_attached seen schema (rels zero) (rises_strictly (rels zero) (are zero).0) rel (((are zero).1 rel).1 source.accessed) relation line
              source.relation_is source.line_is w.kinds.items v.kinds.items order.0.order);
        },
        go (λ place. rels (suc place)) (λ place. are (suc place)) ws vs us order.1 asked.1,
      )

  -- The rounds of the plan, where the lanes kept their order up to them, each of them serves the plan's relations and holds integers at
  -- their integer columns, and no round passes the cap.
  module _ (calls : ℕ) (old middle new : List (Lane S)) (stays : LanesStay seen old middle) (serve : AtPlaces (λ place. Serves) old new)
      (within : OnlyAsked seen schema (map started middle) new → HoldWithin seen schema plan calls (map started middle)) where
    -- until a failed call no count fell
    module _ (why : RunFault) (halts : PlanHalts seen schema plan calls why (map started middle) new) where
      before_last : LanesStay seen old halts.middle
      before_last =
          LanesStay-trans seen old middle halts.middle stays
          (LanesStay-trans seen middle (map started middle) halts.middle (started_stay seen middle)
          (asked_stay seen schema (map started middle) halts.middle (each_asked seen schema halts.earlier (map started middle) halts.middle halts.asks_earlier)))

      call_stop : (branch step : ℕ) → CallFails seen schema plan calls branch step halts.earlier halts.now (map started middle) halts.middle new → ⊥
      call_stop branch step fails =
          let f = fails.fails in
          let (first, was, stay) = from_place (KindsStay seen) old halts.middle before_last f.place f.before f.was in
          let moved = f.rose.rose in
          let accessed : IsAccessed schema plan fails.method.rel = record {
            branch = fails.its_branch;
            step = fails.its_step;
            method = fails.method;
            of_plan = contains_got plan.branches branch fails.its_branch fails.there.of_plan;
            of_branch = contains_got fails.its_branch.steps step fails.its_step fails.there.of_branch;
            named = fails.named;
            of_relation = refl;
          } in
          none_rose seen schema (IsAccessed schema plan) first.kinds.items f.after.kinds.items (serve f.place first f.after was f.now)
          f.before.kinds.items fails.method.rel f.rose.line moved.before moved.after accessed f.rose.line_is stay moved.was moved.now moved.steps

      number_stop : (rel column : ℕ) →
          NumberFails seen schema plan calls rel column halts.earlier halts.now (map started middle) halts.middle new → ⊥
      number_stop rel column fails =
          let asked : OnlyAsked seen schema (map started middle) new =
          each_asked seen schema (halts.earlier ++ halts.now) (map started middle) new
          (AsksEach-trans seen schema halts.earlier halts.now (map started middle) halts.middle new halts.asks_earlier fails.asked) in
          let holds = within asked in
          let accessed : IsAccessed schema plan rel = record {
            branch = fails.its_branch;
            step = fails.its_step;
            method = fails.method;
            of_plan = contains_got plan.branches fails.branch fails.its_branch fails.there.of_plan;
            of_branch = contains_got fails.its_branch.steps fails.step fails.its_step fails.there.of_branch;
            named = fails.named;
            of_relation = fails.of_relation;
          } in
          none_bad schema (IsAccessed schema plan) holds.instance holds.integers halts.now rel column
          (λ fact received same. subst (λ (r : ℕ). IsAccessed schema plan r) (sym same) accessed) (fails.bad holds.instance holds.held)

      cap_stop : (made wanted : ℕ) → CapFills seen schema plan calls made wanted halts.earlier halts.now (map started middle) halts.middle new → ⊥
      cap_stop made wanted fills =
          let asked : OnlyAsked seen schema (map started middle) new =
          subst (λ (lanes : List (Lane S)). OnlyAsked seen schema (map started middle) lanes) (sym fills.unasked)
          (each_asked seen schema halts.earlier (map started middle) halts.middle halts.asks_earlier) in
          let holds = within asked in
          let round = fills.rounds holds.instance holds.held in
          let fits = holds.within fills.branch fills.step halts.earlier halts.now round in
          let over = fills.over in
          let is = fills.total_is in
          let most = fills.wanted_is in
          omega (arith, fits, over, is, most)

    pub rounds_stop : (why : RunFault) → AsksRounds seen schema plan calls middle new (Err why) → stop_of_run why ≡ stop.Memory
    rounds_stop fault.NoMemory rounds = refl
    rounds_stop (fault.NoSource rel) rounds = absurd rounds.cause
    rounds_stop (fault.UnknownKind rel) rounds = absurd rounds.cause
    rounds_stop (fault.Attach rel why) rounds = absurd rounds.cause
    rounds_stop (fault.CallFailed branch step) rounds = absurd (call_stop (fault.CallFailed branch step) rounds branch step rounds.cause)
    rounds_stop (fault.OverCalls made wanted its) rounds = absurd (cap_stop (fault.OverCalls made wanted its) rounds made wanted rounds.cause.1)
    rounds_stop (fault.BadNumber rel column) rounds = absurd (number_stop (fault.BadNumber rel column) rounds rel column rounds.cause)

  module _ (calls : ℕ) (old new : List (Lane S)) (can : CanExecute seen schema plan calls old new) where
    -- Nothing but a lack of memory stops the execution.
    stop_for : (why : RunFault) → AttachesAndAsks seen schema plan calls old new (Err why) → stop_of_run why ≡ stop.Memory
    stop_for why (not_attached its attaches) = attaches_stop seen schema (IsAccessed schema plan) old new can.some can.serve why attaches
    stop_for why (attached middle result (done each have) rounds) =
        rounds_stop calls old middle new (attach_stay seen schema each.rels old middle each.order) (at_place Serves old new can.serve)
        (λ asked. let holds = can.within (all_attached old middle new each asked) in record {
          instance = holds.instance;
          held = plan_held_earlier seen schema plan (map started middle) new asked holds.instance holds.held;
          integers = holds.integers;
          within = holds.within;
        }) why rounds

    pub execution_stop : (why : RunFault) → Executes seen schema plan calls old new (Err why) → stop_of_run why ≡ stop.Memory
    execution_stop why executes = stop_for why executes.does

    -- And so with a delivery, where the output does not fail.
    pub delivery_stop : (IsText : Run → List ℕ → Type 0) (out_old out_new : Option (List ℕ)) (rose : Type 0) → (rose → ⊥) → (why : Stop) →
        Delivers (ExecutesOrStops seen schema plan calls old new) IsText out_old out_new rose (Err why) → why ≡ stop.Memory
    delivery_stop = delivered_stop (ExecutesOrStops seen schema plan calls old new) (λ end ran. ran.2 ∙ execution_stop ran.0 ran.1)
