-- The attaches of a batch, and what follows once they are done.
use Rattle.std.proofs.Common.{◌≡◌, ◌↔◌, inl, inr, ⊎_elim, ℕ, zero, suc, ◌<◌, List, [], ◌∷◌, length, map, refl, sym, ◌∙◌, subst, arith}
use Rattle.std.specs.Prelude.{Contains, IsSome, slice_get, Result, Ok, Err, IfOk, OnOk}
use Rattle.std.specs.List.{AllZip}
use Rattle.std.proofs.lemmas.Option.{slice_get_within}
use Rattle.lists.proofs.Members.{contains_got, got_below}
use Rattle.lists.proofs.Places.{got_member}
use Rattle.meaning.specs.declared.types.Fact.{Fact}
use Rattle.meaning.specs.declared.types.Plan.{Plan}
use Rattle.meaning.specs.declared.types.Request.{Request}
use Rattle.meaning.specs.Plans.{IsLawful}
use Rattle.access_schema.specs.declared.schema.Schema.{Schema}
use Rattle.access_schema.specs.Meaning.{meaning_of}
use Rattle.source_trait.specs.Asking.{Seen}
use Rattle.source_trait.specs.Lanes.{LanesStay}
use Rattle.source_trait.specs.declared.source.AttachFault.{AttachFault}
use Rattle.source_trait.specs.declared.source.AttachFault.TheVariants as attach
use Rattle.source_trait.specs.declared.lanes.Lane.{Lane}
use Rattle.source_trait.proofs.LaneSteps.{LanesStay-refl, LanesStay-trans}
use Rattle.middleware.specs.PlanSources.{line_for}
use Rattle.middleware.specs.Held.{HoldNeeded}
use Rattle.middleware.specs.Needs.{needed, AttachBreaksAt, AttachesNeeded}
use Rattle.middleware.specs.Needs.AttachesNeeded.{done, no_source, unknown_kind, refused, no_memory}
use Rattle.middleware.specs.LaneBranches.{OnEach}
use Rattle.middleware.specs.LaneRounds.{started, NoneStopped}
use Rattle.middleware.specs.LaneRunning.{IsAttachedTo}
use Rattle.middleware.specs.declared.fault.Run.{Run}
use Rattle.middleware.specs.declared.fault.RunFault.{RunFault}
use Rattle.middleware.specs.declared.fault.RunFault.TheVariants as fault
use Rattle.middleware.proofs.Attached.{order_attached_to}
use Rattle.middleware.proofs.Begun.{begun_started, from_started}
use Rattle.middleware.proofs.Lacking.{rises_strictly, the_line}
use Rattle.middleware.proofs.LaneBranching.{each_asked}
use Rattle.middleware.proofs.LaneShares.{only_asked}
use Rattle.middleware.proofs.LaneStays.{asked_stay, attached_each, attach_long, attach_none, started_stay}
use Rattle.middleware.proofs.Needing.{needed_alike}
use Rattle.middleware.proofs.Starting.{all_ready, relation_of, accessed_there}
use Rattle.plan_course.specs.Courses.{CanNumber}
use Rattle.plan_batches.specs.Batching.{NeedsOf, needed_by_all, Concerns, HaltsFor, IsFirstOn, LanesHoldAll, NumberFails, RoundsAsked, RoundsHalt, RoundsDone, IsRunOf, ExecutesAll}
use Rattle.plan_batches.specs.Batching.AttachesAndAsksAll.{not_attached, attached}
use Rattle.plan_batches.specs.Each.{Both}
use Rattle.plan_batches.specs.Needing.{Accesses, StandsIn, IsFirstIn, HasRelation, IsNamedIn}
use Rattle.plan_batches.specs.Rounding.{AreReadyPlans}
use Rattle.plan_batches.specs.declared.fault.BatchFault.{BatchFault}
use Rattle.plan_batches.specs.declared.needs.Accessed.{Accessed}
use Rattle.plan_batches.proofs.Pairing.{partner}

module _ (schema : Schema) (plans : List Plan) where
  -- the lists, one for each plan, have what the plans need
  module _ (each : List Accessed) (are : Both (Accesses schema) plans each) where
    pub needs_listed : (rel : ℕ) → StandsIn each rel ↔ NeedsOf schema plans rel
    needs_listed rel = (
      (λ (one, among, c).
          let (k, at) = got_member each one among in
          let (plan, plan_at, its) = partner (Accesses schema) plans each are k one at in
          (plan, contains_got plans k plan plan_at, (its rel).0 c)),
      (λ (plan, among, a).
          let (k, at) = got_member plans plan among in
          let within = slice_get_within plans k plan at in
          let long = are.long in
          let (one, one_at) = got_below each k (omega (arith, within, long)) in
          (one, contains_got each k one one_at, (are.at k plan one at one_at rel).1 a)),
    )

    pub first_needed : (number rel : ℕ) → IsFirstIn each number rel → IsFirstOn schema plans number rel
    first_needed number rel first =
        let (plan, plan_at, its) = partner (Accesses schema) plans each are number first.one first.at in
        record {
          plan = plan;
          at = plan_at;
          accesses = (its rel).0 first.among;
          before = λ k other less at a.
              let within = slice_get_within plans k other at in
              let long = are.long in
              let (one, one_at) = got_below each k (omega (arith, within, long)) in
              first.before k one less one_at ((are.at k other one at one_at rel).1 a);
        }

    pub concerned : (number : ℕ) (why : RunFault) → IsNamedIn each number why → Concerns schema plans number why
    concerned number fault.NoMemory is = is
    concerned number (fault.NoSource rel) is = first_needed number rel is
    concerned number (fault.UnknownKind rel) is = first_needed number rel is
    concerned number (fault.Attach rel e) is = first_needed number rel is
    concerned number (fault.CallFailed branch step) is = absurd is
    concerned number (fault.OverCalls made wanted its) is = absurd is
    concerned number (fault.BadNumber rel column) is = absurd is

    -- the list of all of them, for each lane
    listed_so : (rels : List ℕ) → ((rel : ℕ) → Contains rels rel ↔ StandsIn each rel) → (place rel : ℕ)
        → needed rels rels place rel ↔ needed_by_all schema plans place rel
    listed_so rels exactly zero rel = ((λ c. (needs_listed rel).0 ((exactly rel).0 c)), (λ n. (exactly rel).1 ((needs_listed rel).1 n)))
    listed_so rels exactly (suc place) rel = ((λ c. (needs_listed rel).0 ((exactly rel).0 c)), (λ n. (exactly rel).1 ((needs_listed rel).1 n)))

    pub attaches_all : {S : Type 0} (seen : S → Seen) (rels lent : List ℕ) → lent ≡ rels → ((rel : ℕ) → Contains rels rel ↔ StandsIn each rel)
        → (old new : List (Lane S)) (result : Result (Unit {0}) RunFault) → AttachesNeeded seen schema (needed lent lent) old new result
        → AttachesNeeded seen schema (needed_by_all schema plans) old new result
    attaches_all seen rels lent is exactly = needed_alike (needed lent lent) (needed_by_all schema plans)
        (listed_so lent (subst (λ (l : List ℕ). (rel : ℕ) → Contains l rel ↔ StandsIn each rel) (sym is) exactly)) seen schema

    pub listed_there : (rel : ℕ) → StandsIn each rel → IsSome (slice_get schema.relations rel)
    listed_there rel c = let (plan, among, a) = (needs_listed rel).0 c in accessed_there schema plan rel a

  pub ready_plans : ((plan : Plan) → Contains plans plan → (constants : List (List ℕ)) × IsLawful plan (meaning_of schema) constants)
      → ((plan : Plan) → Contains plans plan → CanNumber plan) → AreReadyPlans schema plans
  ready_plans lawful short plan among =
      let (constants, law) = lawful plan among in ((λ its c. all_ready schema plan constants law its c), short plan among)

  module _ {S : Type 0} (seen : S → Seen) where
    -- once they are attached, there is a lane, and each lane has them
    pub some_lane : (old new : List (Lane S)) → AttachesNeeded seen schema (needed_by_all schema plans) old new (Ok tt) → (rel : ℕ)
        → NeedsOf schema plans rel → 0 < length new
    some_lane [] new (done each have) rel a =
        let (line, is) = the_line (line_for rel schema.sources) (have.lines rel (0, a)) in
        absurd (have.kinds rel line (0, a) is (inl refl))
    some_lane (w ∷ ws) new (done each have) rel a =
        let long = attach_long seen schema each.rels (w ∷ ws) new each.order in omega (arith, long)

    pub each_attached : (old new : List (Lane S)) → AttachesNeeded seen schema (needed_by_all schema plans) old new (Ok tt) → (rel : ℕ)
        → NeedsOf schema plans rel → OnEach new (IsAttachedTo seen schema rel)
    each_attached old new (done each have) rel a =
        let (line, line_is) = the_line (line_for rel schema.sources) (have.lines rel (0, a)) in
        let (relation, relation_is) = relation_of schema a.0 rel a.2 in
        attached_each seen schema (IsAttachedTo seen schema rel) each.rels
        (λ place before after order. order_attached_to seen schema (each.rels place) (rises_strictly (each.rels place) (each.are place).ascends) rel
        (((each.are place).exactly rel).1 a) relation line relation_is line_is before after order)
        old new each.order

    -- a relation that was refused is needed
    broken : (rel : ℕ) (why : AttachFault) (old new : List (Lane S)) → AttachBreaksAt seen schema (needed_by_all schema plans) rel why old new
        → NeedsOf schema plans rel
    broken rel why old new b =
        let r = b.breaks.refused in
        ((b.are b.breaks.place).exactly rel).0 (contains_got (b.rels b.breaks.place) r.n rel r.at)

    -- the relation of a fault is needed
    pub fault_listed : (each : List Accessed) → Both (Accesses schema) plans each → (old new : List (Lane S)) (why : RunFault)
        → AttachesNeeded seen schema (needed_by_all schema plans) old new (Err why) → HasRelation each why
    fault_listed each are old new why (no_source rel first same) = (needs_listed each are rel).1 first.wanted.1
    fault_listed each are old new why (unknown_kind rel first same) = (needs_listed each are rel).1 first.wanted.1
    fault_listed each are old new why (refused rel e breaks have apart) = (needs_listed each are rel).1 (broken rel e old new breaks)
    fault_listed each are old new why (no_memory h) = tt

    -- where nothing is needed, attaches leave the lanes as they were
    attaches_idle : (old new : List (Lane S)) (result : Result (Unit {0}) RunFault) → AttachesNeeded seen schema (needed_by_all schema plans) old new result
        → ((rel : ℕ) → NeedsOf schema plans rel → ⊥) → new ≡ old
    attaches_idle old new result (done each have) none =
        attach_none seen schema each.rels (λ place rel c. none rel (((each.are place).exactly rel).0 c)) old new each.order
    attaches_idle old new result (no_source rel first same) none = same
    attaches_idle old new result (unknown_kind rel first same) none = same
    attaches_idle old new result (refused rel why breaks have apart) none = absurd (none rel (broken rel why old new breaks))
    attaches_idle old new result (no_memory (inl same)) none = same
    attaches_idle old new result (no_memory (inr (rel, breaks))) none = absurd (none rel (broken rel attach.NoMemory old new breaks))

    -- an execution that stopped at its attaches
    pub not_begun : (cap : ℕ) (old new : List (Lane S)) (why : BatchFault) → AttachesNeeded seen schema (needed_by_all schema plans) old new (Err why.fault)
        → Concerns schema plans why.plan why.fault → LanesStay seen old new → ExecutesAll seen schema plans cap old new (Err why)
    not_begun cap old new why attaches concerns stay = record {
      runs = tt;
      does = not_attached why attaches concerns;
      stay = stay;
      idle = attaches_idle old new (Err why.fault) attaches;
      going = λ rel a. tt;
    }

    pub no_room : (cap : ℕ) (lanes : List (Lane S)) → ExecutesAll seen schema plans cap lanes lanes (Err (record { plan = 0; fault = fault.NoMemory }))
    no_room cap lanes =
        not_begun cap lanes lanes (record { plan = 0; fault = fault.NoMemory }) (no_memory (inl refl)) refl (LanesStay-refl seen lanes)

    -- what rounds leave of the lanes
    rounds_stay : (n : ℕ) (list : List Request) (old new : List (Lane S)) → RoundsAsked seen schema plans n list (map started old) new → LanesStay seen old new
    rounds_stay n list old new r = LanesStay-trans seen old (map started old) new (started_stay seen old)
        (asked_stay seen schema (map started old) new (each_asked seen schema list (map started old) new r.asks))

    done_stay : (cap : ℕ) (old new : List (Lane S)) (result : Result (List Run) BatchFault) → RoundsDone seen schema plans cap (map started old) new result
        → LanesStay seen old new
    done_stay cap old new (Ok runs) (list, r, within) = rounds_stay _ list old new r
    done_stay cap old new (Err why) h = LanesStay-trans seen old h.middle new (rounds_stay h.n h.earlier old h.middle h.whole)
        (asked_stay seen schema h.middle new (only_asked seen schema _ h.part.lists h.middle new h.part.lanes))

    -- and one that went on
    pub went_on : (cap : ℕ) (old middle new : List (Lane S)) (result : Result (List Run) BatchFault)
        → AttachesNeeded seen schema (needed_by_all schema plans) old middle (Ok tt) → LanesStay seen old middle
        → IfOk result (λ runs. AllZip (IsRunOf seen schema plans new) plans runs) → RoundsDone seen schema plans cap (map started middle) new result
        → (((rel : ℕ) → NeedsOf schema plans rel → ⊥) → new ≡ middle) → ((rel : ℕ) → NeedsOf schema plans rel → OnOk result (NoneStopped new))
        → ExecutesAll seen schema plans cap old new result
    went_on cap old middle new result attaches stay runs rounds idle going = record {
      runs = runs;
      does = attached middle result attaches rounds;
      stay = LanesStay-trans seen old middle new stay (done_stay cap middle new result rounds);
      idle = λ none. idle none ∙ attaches_idle old middle (Ok tt) attaches none;
      going = going;
    }

    -- ---- lanes that were started, or asked nothing

    module _ (old begun : List (Lane S)) (rounds : ℕ) (some : 0 < rounds → begun ≡ map started old) (none : rounds ≡ 0 → begun ≡ old) where
      held_begun : (instance : List Fact) → LanesHoldAll seen schema plans (map started old) instance → LanesHoldAll seen schema plans begun instance
      held_begun instance = begun_started old begun rounds some none (λ kinds. HoldNeeded seen schema (NeedsOf schema plans) kinds instance)

      pub rounds_started : (n : ℕ) (list : List Request) (new : List (Lane S)) → RoundsAsked seen schema plans n list begun new
          → RoundsAsked seen schema plans n list (map started old) new
      rounds_started n list new r = record {
        asks = from_started old begun rounds some none seen schema list new r.asks;
        of_plans = r.of_plans;
        are = λ instance holds. r.are instance (held_begun instance holds);
        numbers = λ instance holds. r.numbers instance (held_begun instance holds);
      }

      number_started : (cap number rel column : ℕ) (earlier : List Request) (turns : List (List Request)) (middle new : List (Lane S))
          → NumberFails seen schema plans cap number rel column earlier turns begun middle new
          → NumberFails seen schema plans cap number rel column earlier turns (map started old) middle new
      number_started cap number rel column earlier turns middle new fails = record {
        turn = fails.turn;
        at = fails.at;
        fits = fails.fits;
        asked = fails.asked;
        going = fails.going;
        bad = λ instance holds. fails.bad instance (held_begun instance holds);
        before = λ instance holds. fails.before instance (held_begun instance holds);
      }

      cause_started : (cap n : ℕ) (earlier : List Request) (turns : List (List Request)) (middle new : List (Lane S)) (number : ℕ) (why : RunFault)
          → HaltsFor seen schema plans cap n earlier turns begun middle new number why
          → HaltsFor seen schema plans cap n earlier turns (map started old) middle new number why
      cause_started cap n earlier turns middle new number fault.NoMemory is = is
      cause_started cap n earlier turns middle new number (fault.CallFailed branch step) is = is
      cause_started cap n earlier turns middle new number (fault.OverCalls made wanted its) is = is
      cause_started cap n earlier turns middle new number (fault.BadNumber rel column) is =
          number_started cap number rel column earlier turns middle new is
      cause_started cap n earlier turns middle new number (fault.NoSource rel) is = absurd is
      cause_started cap n earlier turns middle new number (fault.UnknownKind rel) is = absurd is
      cause_started cap n earlier turns middle new number (fault.Attach rel e) is = absurd is

      pub halts_started : (cap : ℕ) (why : BatchFault) (new : List (Lane S)) → RoundsHalt seen schema plans cap why begun new
          → RoundsHalt seen schema plans cap why (map started old) new
      halts_started cap why new h = record {
        n = h.n;
        earlier = h.earlier;
        turns = h.turns;
        middle = h.middle;
        whole = rounds_started h.n h.earlier h.middle h.whole;
        part = h.part;
        of_plans = h.of_plans;
        are = ⊎_elim inl (λ a. inr (λ instance holds. a instance (held_begun instance holds))) h.are;
        cause = cause_started cap h.n h.earlier h.turns h.middle new why.plan why.fault h.cause;
      }
