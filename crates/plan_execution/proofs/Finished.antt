-- From attaches and rounds on several lanes to what an execution promises of them.
use Rattle.std.proofs.Common.{◌≡◌, inl, inr, ℕ, ◌<◌, ◌≤◌, List, map, refl, ◌∙◌, length, arith}
use Rattle.std.specs.Prelude.{IfOk, IfErr, OnOk, Ok, Err, Result}
use Rattle.std.specs.List.Sorted.{IsStrictlySortedBy}
use Rattle.lists.proofs.Members.{contains_got}
use Rattle.meaning.specs.declared.types.Fact.{Fact}
use Rattle.meaning.specs.declared.types.Plan.{Plan}
use Rattle.meaning.specs.declared.types.Request.{Request}
use Rattle.access_schema.specs.declared.schema.Schema.{Schema}
use Rattle.access_schema.specs.Meaning.{meaning_of}
use Rattle.source_trait.specs.Asking.{RowList, Seen}
use Rattle.source_trait.specs.Lanes.{LanesStay}
use Rattle.source_trait.specs.declared.source.AttachFault.{AttachFault}
use Rattle.source_trait.specs.declared.source.AttachFault.TheVariants as attach
use Rattle.source_trait.specs.declared.lanes.Lane.{Lane}
use Rattle.row_text.specs.RowText.{row_cmp}
use Rattle.source_trait.proofs.LaneSteps.{LanesStay-refl, LanesStay-trans}
use Rattle.middleware.specs.PlanSources.{IsAccessed}
use Rattle.middleware.specs.Held.{HoldPlan}
use Rattle.middleware.specs.Needs.{AttachBreaksAt, AttachesNeeded}
use Rattle.middleware.specs.Needs.AttachesNeeded.{done, no_source, unknown_kind, refused, no_memory}
use Rattle.middleware.specs.LaneRounds.{started, AsksEach, NoneStopped}
use Rattle.middleware.specs.LaneBranches.{LanesHoldPlan}
use Rattle.middleware.specs.declared.fault.Run.{Run}
use Rattle.middleware.specs.declared.fault.RunFault.{RunFault}
use Rattle.middleware.specs.declared.fault.RunFault.TheVariants as fault
use Rattle.middleware.proofs.Begun.{begun_started, from_started}
use Rattle.middleware.proofs.LaneBranching.{each_asked}
use Rattle.middleware.proofs.LaneShares.{only_asked}
use Rattle.middleware.proofs.LaneStays.{asked_stay, attach_none, started_stay}
use Rattle.middleware.proofs.PlanHeld.{plan_held_earlier}
use Rattle.shared_rounds.specs.SharedRounds.{turns_of}
use Rattle.plan_course.specs.Courses.{AreReadyBranches}
use Rattle.plan_course.proofs.Accessing.{no_turns, some_turn}
use Rattle.plan_execution.specs.PlanRounds.{LanesDone, PlanCause, PlanHalts}
use Rattle.plan_execution.specs.Running.{needed_by, AsksRounds, LanesGoOn}
use Rattle.plan_execution.specs.Running.AttachesAndAsks.{not_attached, attached}
use Rattle.plan_execution.specs.Executing.{Executes, ExecutesAttached}

module _ {S : Type 0} (seen : S → Seen) (schema : Schema) (plan : Plan) where
  -- ---- the rounds

  module _ (cap : ℕ) (old begun new : List (Lane S)) (rounds : ℕ) (some : 0 < rounds → begun ≡ map started old)
      (none : rounds ≡ 0 → begun ≡ old) where
    held_begun : (instance : List Fact) → LanesHoldPlan seen schema plan (map started old) instance
        → LanesHoldPlan seen schema plan begun instance
    held_begun instance = begun_started old begun rounds some none (λ kinds. HoldPlan seen schema plan kinds instance)

    done_started : (rows : RowList) (total : ℕ) → LanesDone seen schema plan rows total begun new
        → LanesDone seen schema plan rows total (map started old) new
    done_started rows total d = record {
      list = d.list;
      asks = from_started old begun rounds some none seen schema d.list new d.asks;
      count = d.count;
      of_plan = d.of_plan;
      rows_are = λ instance holds. d.rows_are instance (held_begun instance holds);
      are = λ instance holds. d.are instance (held_begun instance holds);
      numbers = λ instance holds. d.numbers instance (held_begun instance holds);
    }

    cause_started : (earlier now : List Request) (middle : List (Lane S)) (why : RunFault)
        → PlanCause seen schema plan cap earlier now begun middle new why
        → PlanCause seen schema plan cap earlier now (map started old) middle new why
    cause_started earlier now middle fault.NoMemory c = record {
      branch = c.branch;
      step = c.step;
      rounds = λ instance holds. c.rounds instance (held_begun instance holds);
    }
    cause_started earlier now middle (fault.NoSource rel) c = c
    cause_started earlier now middle (fault.UnknownKind rel) c = c
    cause_started earlier now middle (fault.Attach rel why) c = c
    cause_started earlier now middle (fault.CallFailed branch step) c = record {
      its_branch = c.its_branch;
      its_step = c.its_step;
      method = c.method;
      there = c.there;
      named = c.named;
      some = c.some;
      of_step = c.of_step;
      fits = c.fits;
      fails = c.fails;
      rounds = λ instance holds. c.rounds instance (held_begun instance holds);
    }
    cause_started earlier now middle (fault.OverCalls total wanted its) (is, c) = (
      is,
      record {
        branch = c.branch;
        step = c.step;
        total_is = c.total_is;
        within = c.within;
        over = c.over;
        wanted_is = c.wanted_is;
        unasked = c.unasked;
        going = c.going;
        rounds = λ instance holds. c.rounds instance (held_begun instance holds);
      },
    )
    cause_started earlier now middle (fault.BadNumber rel column) c = record {
      branch = c.branch;
      step = c.step;
      its_branch = c.its_branch;
      its_step = c.its_step;
      method = c.method;
      there = c.there;
      named = c.named;
      of_relation = c.of_relation;
      fits = c.fits;
      asked = c.asked;
      going = c.going;
      rounds = λ instance holds. c.rounds instance (held_begun instance holds);
      bad = λ instance holds. c.bad instance (held_begun instance holds);
    }

    halts_started : (why : RunFault) → PlanHalts seen schema plan cap why begun new
        → PlanHalts seen schema plan cap why (map started old) new
    halts_started why h = record {
      middle = h.middle;
      earlier = h.earlier;
      now = h.now;
      asks_earlier = from_started old begun rounds some none seen schema h.earlier h.middle h.asks_earlier;
      asks_now = h.asks_now;
      of_plan = h.of_plan;
      part = λ instance holds. h.part instance (held_begun instance holds);
      numbers = λ instance holds. h.numbers instance (held_begun instance holds);
      cause = cause_started h.earlier h.now h.middle why h.cause;
    }

    ran : (result : Result Run RunFault) → IfOk result (λ run. LanesDone seen schema plan run.rows run.made begun new)
        → IfErr result (λ why. PlanHalts seen schema plan cap why begun new)
        → AsksRounds seen schema plan cap old new result
    ran (Ok run) did halts = done_started run.rows run.made did
    ran (Err fault.NoMemory) did halts = inr (halts_started fault.NoMemory halts)
    ran (Err (fault.NoSource rel)) did halts = halts_started (fault.NoSource rel) halts
    ran (Err (fault.UnknownKind rel)) did halts = halts_started (fault.UnknownKind rel) halts
    ran (Err (fault.Attach rel why)) did halts = halts_started (fault.Attach rel why) halts
    ran (Err (fault.CallFailed branch step)) did halts = halts_started (fault.CallFailed branch step) halts
    ran (Err (fault.OverCalls total wanted its)) did halts = halts_started (fault.OverCalls total wanted its) halts
    ran (Err (fault.BadNumber rel column)) did halts = halts_started (fault.BadNumber rel column) halts

    stays_behind : (list : List Request) (middle : List (Lane S)) → AsksEach seen schema list (map started old) middle
        → LanesStay seen old middle
    stays_behind list middle asks = LanesStay-trans seen old (map started old) middle (started_stay seen old)
        (asked_stay seen schema (map started old) middle (each_asked seen schema list (map started old) middle asks))

    ran_stay : (result : Result Run RunFault)
        → IfOk result (λ run. LanesDone seen schema plan run.rows run.made begun new)
        → IfErr result (λ why. PlanHalts seen schema plan cap why begun new) → LanesStay seen old new
    ran_stay (Ok run) did halts = stays_behind did.list new
        (from_started old begun rounds some none seen schema did.list new did.asks)
    ran_stay (Err why) did halts = LanesStay-trans seen old halts.middle new
        (stays_behind halts.earlier halts.middle
        (from_started old begun rounds some none seen schema halts.earlier halts.middle halts.asks_earlier))
        (asked_stay seen schema halts.middle new
        (only_asked seen schema halts.now halts.asks_now.lists halts.middle new halts.asks_now.lanes))

    -- all that an execution on lanes that have attached the relations promises
    module _ (ready : AreReadyBranches (meaning_of schema) plan) (steps : rounds ≡ length (turns_of plan)) where
      still : (rounds ≡ 0 → new ≡ begun) → ((rel : ℕ) → IsAccessed schema plan rel → ⊥) → new ≡ old
      still idle nothing = let zeroth : rounds ≡ 0 = steps ∙ no_turns schema plan ready nothing in idle zeroth
          ∙ none zeroth

      goes : (result : Result Run RunFault) → OnOk result (0 < rounds → NoneStopped new) → (rel : ℕ)
          → IsAccessed schema plan rel → LanesGoOn result new
      goes (Ok run) going rel a = let l = some_turn schema plan rel a in going (omega (arith, l, steps))
      goes (Err why) going rel a = tt

      held_earlier : (list : List Request) → AsksEach seen schema list begun new → (instance : List Fact)
          → LanesHoldPlan seen schema plan new instance → LanesHoldPlan seen schema plan begun instance
      held_earlier list asks = plan_held_earlier seen schema plan begun new (each_asked seen schema list begun new asks)

      pub promised : (result : Result Run RunFault)
          → IfOk result (λ run. LanesDone seen schema plan run.rows run.made begun new)
          → IfOk result (λ run. IsStrictlySortedBy row_cmp run.rows) → IfOk result (λ run. run.made ≤ cap)
          → IfErr result (λ why. PlanHalts seen schema plan cap why begun new) → (rounds ≡ 0 → new ≡ begun)
          → OnOk result (0 < rounds → NoneStopped new)
          → ExecutesAttached seen schema plan cap old new result
      promised (Ok run) did ascends within halts idle going = record {
        rows = λ instance holds. did.rows_are instance (held_earlier did.list did.asks instance holds);
        ascends = ascends;
        made = λ instance holds. (
          did.list,
          did.are instance
              (held_earlier did.list did.asks instance holds),
          did.count,
        );
        within = within;
        does = ran (Ok run) did halts;
        stay = ran_stay (Ok run) did halts;
        idle = still idle;
        going = goes (Ok run) going;
      }
      promised (Err why) did ascends within halts idle going = record {
        rows = tt;
        ascends = tt;
        made = tt;
        within = tt;
        does = ran (Err why) did halts;
        stay = ran_stay (Err why) did halts;
        idle = still idle;
        going = goes (Err why) going;
      }

  -- ---- the attaches

  -- a relation that was refused is accessed
  broken : (rel : ℕ) (why : AttachFault) (old new : List (Lane S))
      → AttachBreaksAt seen schema (needed_by schema plan) rel why old new
      → IsAccessed schema plan rel
  broken rel why old new b =
      let r = b.breaks.refused in
      ((b.are b.breaks.place).exactly rel).0 (contains_got (b.rels b.breaks.place) r.n rel r.at)

  -- where nothing is accessed, attaches leave the lanes as they were
  attaches_idle : (old new : List (Lane S)) (result : Result (Unit {0}) RunFault)
      → AttachesNeeded seen schema (needed_by schema plan) old new result
      → ((rel : ℕ) → IsAccessed schema plan rel → ⊥) → new ≡ old
  attaches_idle old new result (done each have) none =
      attach_none seen schema each.rels (λ place rel c. none rel (((each.are place).exactly rel).0 c)) old new
      each.order
  attaches_idle old new result (no_source rel first same) none = same
  attaches_idle old new result (unknown_kind rel first same) none = same
  attaches_idle old new result (refused rel why breaks have apart) none = absurd
      (none rel (broken rel why old new breaks))
  attaches_idle old new result (no_memory (inl same)) none = same
  attaches_idle old new result (no_memory (inr (rel, breaks))) none = absurd
      (none rel (broken rel attach.NoMemory old new breaks))

  -- an execution that stopped at its attaches
  pub not_begun : (cap : ℕ) (old new : List (Lane S)) (why : RunFault)
      → AttachesNeeded seen schema (needed_by schema plan) old new (Err why)
      → LanesStay seen old new → Executes seen schema plan cap old new (Err why)
  not_begun cap old new why attaches stay = record {
    rows = tt;
    ascends = tt;
    made = tt;
    within = tt;
    does = not_attached why attaches;
    stay = stay;
    idle = attaches_idle old new (Err why) attaches;
    going = λ rel a. tt;
  }

  pub no_room : (cap : ℕ) (lanes : List (Lane S)) → Executes seen schema plan cap lanes lanes (Err fault.NoMemory)
  no_room cap lanes = not_begun cap lanes lanes fault.NoMemory (no_memory (inl refl)) (LanesStay-refl seen lanes)

  -- and one that went on
  pub went_on : (cap : ℕ) (old middle new : List (Lane S)) (result : Result Run RunFault)
      → AttachesNeeded seen schema (needed_by schema plan) old middle (Ok tt) → LanesStay seen old middle
      → ExecutesAttached seen schema plan cap middle new result → Executes seen schema plan cap old new result
  went_on cap old middle new result attaches stay e = record {
    rows = e.rows;
    ascends = e.ascends;
    made = e.made;
    within = e.within;
    does = attached middle result attaches e.does;
    stay = LanesStay-trans seen old middle new stay e.stay;
    idle = λ none. e.idle none ∙ attaches_idle old middle (Ok tt) attaches none;
    going = e.going;
  }
