-- The commands `crawl` and `reach` are answered.
use Rattle.std.proofs.Common.{◌≡◌, ◌⊎◌, ◌∙◌, ◌<◌, ℕ, zero, suc, List, length, Option, Result, Ok, Err, refl, sym, subst, inl, inr, arith}
use Rattle.std.specs.Prelude.{Contains}
use Rattle.std.proofs.lemmas.List.Elements.{Contains-append_right}
use Rattle.meaning.specs.declared.types.Fact.{Fact}
use Rattle.meaning.specs.declared.types.Request.{Request}
use Rattle.meaning.specs.declared.types.Statement.{Statement}
use Rattle.meaning.specs.Crawls.{IsReceived}
use Rattle.access_schema.specs.declared.schema.Schema.{Schema}
use Rattle.source_trait.specs.Asking.{Seen}
use Rattle.source_trait.specs.Lanes.{KindsStay, LanesStay}
use Rattle.source_trait.specs.declared.lanes.Lane.{Lane}
use Rattle.source_trait.proofs.LaneSteps.{LanesStay-trans}
use Rattle.middleware.specs.declared.fault.RunFault.{RunFault}
use Rattle.middleware.specs.declared.fault.RunFault.TheVariants as fault
use Rattle.middleware.specs.Needs.{AttachesNeeded}
use Rattle.middleware.specs.Needs.AttachesNeeded.{done as all_attached}
use Rattle.middleware.proofs.LaneBranching.{each_asked}
use Rattle.middleware.proofs.LaneStays.{asked_stay, attach_stay}
use Rattle.crawl.specs.Crawling.{IsReachable, needed_to_crawl, asked_in, RoundFails, NumberFails, CapFills, CrawlHalts, AttachesAndCrawls}
use Rattle.crawl.specs.Crawling.AttachesAndCrawls.{not_attached, attached}
use Rattle.command_io.specs.declared.stop.Stop.{Stop}
use Rattle.command_io.specs.declared.stop.Stop.TheVariants as stop
use Rattle.command_io.specs.Executing.{stop_of_run, stop_of_crawl, Delivers}
use Rattle.command_io.specs.Inputs.{SchemaIsRead}
use Rattle.command_io.specs.declared.outcome.Outcome.{Outcome}
use Rattle.command_io.specs.Moments.{Moment}
use Rattle.crawl_command.specs.Ends.{CrawlsOrStops, CrawlEnds}
use Rattle.crawl_command.specs.Ends.CrawlEnds.{no_schema, stopped, done as crawled}
use Rattle.crawl_command.specs.Reach.{ReachEnds}
use Rattle.crawl_command.specs.Reach.ReachEnds.{no_texts, stopped as reach_stopped, done as reached}
use Rattle.pdq_core.specs.Runs.{ended}
use Rattle.pdq_core.specs.Complete.{IsAnswered, NoneRose, SchemaIsGiven, QueryIsGiven, Serve, HoldReachable, CanCrawl}
use Rattle.pdq_core.specs.Complete.IsAnswered.{done}
use Rattle.pdq_core.proofs.CompleteTexts.{same_schema, schema_stop, texts_stop, delivered_stop, stop_answered}
use Rattle.pdq_core.proofs.CompleteSources.{none_rose}
use Rattle.pdq_core.proofs.CompleteIntegers.{none_bad}
use Rattle.pdq_core.proofs.CompleteAttaches.{at_place, from_place, attaches_stop}

-- a fault that stops an execution for lack of memory stops a crawl so too
as_crawl : (why : RunFault) → stop_of_run why ≡ stop.Memory → stop_of_crawl why ≡ stop.Memory
as_crawl fault.NoMemory e = e
as_crawl (fault.NoSource rel) e = e
as_crawl (fault.UnknownKind rel) e = e
as_crawl (fault.Attach rel why) e = e
as_crawl (fault.CallFailed branch step) e = absurd (cc)
as_crawl (fault.OverCalls made wanted its) e = e
as_crawl (fault.BadNumber rel column) e = e

-- there is none, or there is one
none_or_one : (n : ℕ) → (n ≡ 0) ⊎ (0 < n)
none_or_one zero = inl refl
none_or_one (suc n) = inr (omega arith)

-- Lanes whose sources serve the reachable relations and hold integers at their integer columns, and on which no round passes the cap.
module _ {S : Type 0} (seen : S → Seen) (schema : Schema) (calls : ℕ) (old new : List (Lane S))
    (can : CanCrawl seen schema calls old new) where
  -- The rounds of lanes that attached these relations.
  module _ (middle : List (Lane S)) (attaches : AttachesNeeded seen schema (needed_to_crawl schema) old middle (Ok tt))
      (stays : LanesStay seen old middle) (why : RunFault) (halts : CrawlHalts seen schema calls why middle new) where
    -- until a failed call no count fell
    before_last : LanesStay seen old halts.middle
    before_last =
        LanesStay-trans seen old middle halts.middle stays
        (asked_stay seen schema middle halts.middle (each_asked seen schema (asked_in halts.rounds) middle halts.middle halts.asks_earlier))

    -- what the lanes hold when the rounds begin
    holds : HoldReachable seen schema calls middle
    holds = can.within middle attaches

    -- a request of the last round is one of a reachable relation
    reached_by : (request : Request) → Contains halts.now request → IsReachable schema request.rel
    reached_by request among =
        let its = halts.of_methods request (Contains-append_right (asked_in halts.rounds) halts.now request among) in
        (its.method, its.of_schema, sym its.of_relation)

    call_stop : (branch step : ℕ) → RoundFails seen schema calls branch step halts.rounds halts.now halts.middle new → ⊥
    call_stop branch step fails =
        let f = fails.fails in
        let (first, was, stay) = from_place (KindsStay seen) old halts.middle before_last f.place f.before f.was in
        let moved = f.rose.rose in
        let rel = fails.request.rel in
        let reachable = reached_by fails.request fails.of_round in
        none_rose seen schema (IsReachable schema) first.kinds.items f.after.kinds.items
        (at_place (Serve seen schema (IsReachable schema)) old new can.serve f.place first f.after was f.now)
        f.before.kinds.items rel f.rose.line moved.before moved.after reachable f.rose.line_is stay moved.was moved.now moved.steps

    number_stop : (rel column : ℕ) → NumberFails seen schema calls rel column halts.rounds halts.now middle halts.middle new → ⊥
    number_stop rel column fails =
        none_bad schema (IsReachable schema) holds.instance holds.integers halts.now rel column needed (fails.bad holds.instance holds.held)
      where
        needed : (fact : Fact) → IsReceived holds.instance halts.now fact → fact.rel ≡ rel → IsReachable schema fact.rel
        needed fact (request, among, picked) same =
            subst (λ (r : ℕ). IsReachable schema r) (sym picked.of_relation) (reached_by request among)

    cap_stop : (made wanted its : ℕ) → CapFills seen schema calls made wanted its halts.rounds halts.now halts.middle new → ⊥
    cap_stop made wanted its fills =
        let (are, round) = halts.means holds.instance holds.held in
        let within = fills.within in
        let over = fills.over in
        let made_is = fills.made_is in
        let most = fills.wanted_is in
        elim (none_or_one (length halts.now)) [
          | inl none ↦ omega (arith, none, within, over, most)
          | inr some ↦ let fits = holds.within halts.rounds halts.now are (round some) in omega (arith, fits, over, made_is, most)
        ]

  rounds_stop : (middle : List (Lane S)) → AttachesNeeded seen schema (needed_to_crawl schema) old middle (Ok tt) →
      LanesStay seen old middle → (why : RunFault) → CrawlHalts seen schema calls why middle new → stop_of_crawl why ≡ stop.Memory
  rounds_stop middle attaches stays fault.NoMemory halts = refl
  rounds_stop middle attaches stays (fault.NoSource rel) halts = absurd halts.cause
  rounds_stop middle attaches stays (fault.UnknownKind rel) halts = absurd halts.cause
  rounds_stop middle attaches stays (fault.Attach rel why) halts = absurd halts.cause
  rounds_stop middle attaches stays (fault.CallFailed branch step) halts =
      absurd (call_stop middle attaches stays (fault.CallFailed branch step) halts branch step halts.cause)
  rounds_stop middle attaches stays (fault.OverCalls made wanted its) halts =
      absurd (cap_stop middle attaches stays (fault.OverCalls made wanted its) halts made wanted its halts.cause)
  rounds_stop middle attaches stays (fault.BadNumber rel column) halts =
      absurd (number_stop middle attaches stays (fault.BadNumber rel column) halts rel column halts.cause)

  -- Nothing but a lack of memory stops the crawl.
  stop_for : (why : RunFault) → AttachesAndCrawls seen schema calls old new (Err why) → stop_of_crawl why ≡ stop.Memory
  stop_for why (not_attached its attaches) =
      as_crawl why (attaches_stop seen schema (IsReachable schema) old new can.some can.serve why attaches)
  stop_for why (attached middle result (all_attached each have) rounds) =
      rounds_stop middle (all_attached each have) (attach_stay seen schema each.rels old middle each.order) why rounds

  crawl_stop : (end : Stop) → CrawlsOrStops seen schema calls old new (Err end) → end ≡ stop.Memory
  crawl_stop end (why, crawls, is) = is ∙ stop_for why crawls.does

  -- And so with a delivery of what came, where the output does not fail.
  crawled_stop : (IsText : List Fact → List ℕ → Type 0) (out_old out_new : Option (List ℕ)) (rose : Type 0) → (rose → ⊥) → (why : Stop) →
      Delivers (CrawlsOrStops seen schema calls old new) IsText out_old out_new rose (Err why) → why ≡ stop.Memory
  crawled_stop = delivered_stop (CrawlsOrStops seen schema calls old new) crawl_stop

module _ {S : Type 0} (seen : S → Seen) (name : List ℕ) (calls : ℕ) (before after : Moment) (old new : List (Lane S))
    (calm : NoneRose before after) (schema : Schema) (given : SchemaIsGiven before.files name schema)
    (can : CanCrawl seen schema calls old new) where
  -- what was read can be crawled
  can_its : (its : Schema) → SchemaIsRead before.files name its → CanCrawl seen its calls old new
  can_its its is = subst (λ (s : Schema). CanCrawl seen s calls old new) (same_schema before.files name schema its given is) can

  pub crawl_answered : (result : Result Outcome Stop) → CrawlEnds seen name calls before after old new result → IsAnswered (ended result)
  crawl_answered result (no_schema end why quiet same) = stop_answered end (schema_stop before.files name _ calm.files schema given) why
  crawl_answered result (stopped its why end is delivery told) =
      stop_answered end (λ other e. e ∙ crawled_stop seen its calls old new (can_its its is) _ _ _ _ calm.out why delivery) told
  crawl_answered result (crawled its is delivery quiet) = done

  pub reach_answered : (query : List ℕ) (statement : Statement) → QueryIsGiven before.files query schema statement →
      (result : Result Outcome Stop) → ReachEnds seen name query calls before after old new result → IsAnswered (ended result)
  reach_answered query statement query_given result (no_texts end why quiet same) =
      stop_answered end (texts_stop before.files name query _ calm.files schema statement given query_given) why
  reach_answered query statement query_given result (reach_stopped its read why end is are delivery told) =
      stop_answered end (λ other e. e ∙ crawled_stop seen its calls old new (can_its its is) _ _ _ _ calm.out why delivery) told
  reach_answered query statement query_given result (reached its read is are delivery quiet) = done
