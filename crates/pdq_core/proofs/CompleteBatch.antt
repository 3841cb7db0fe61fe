-- The command `batch` is answered.
use Rattle.std.proofs.Common.{◌≡◌, ◌∙◌, ◌++◌, ℕ, suc, List, [], map, length-append, Option, Some, Result, Ok, Err}
use Rattle.std.proofs.Common.{refl, sym, subst, inl, inr, arith}
use Rattle.std.specs.Prelude.{Contains, slice_get}
use Rattle.std.proofs.lemmas.List.Elements.{Contains-append_right}
use Rattle.lists.proofs.Members.{contains_got, contains_map, contains_joined, none_some}
use Rattle.meaning.specs.declared.types.Fact.{Fact}
use Rattle.meaning.specs.declared.types.Plan.{Plan}
use Rattle.meaning.specs.declared.types.Request.{Request}
use Rattle.meaning.specs.declared.types.Statement.{Statement}
use Rattle.meaning.specs.Crawls.{IsReceived}
use Rattle.access_schema.specs.declared.schema.Schema.{Schema}
use Rattle.access_schema.specs.Meaning.{meaning_of}
use Rattle.source_trait.specs.Asking.{Seen}
use Rattle.source_trait.specs.Causes.{Rose}
use Rattle.source_trait.specs.Lanes.{KindsStay, LanesStay}
use Rattle.source_trait.specs.declared.lanes.Lane.{Lane}
use Rattle.source_trait.specs.declared.work.Ask.{Ask}
use Rattle.source_trait.proofs.LaneSteps.{LanesStay-trans}
use Rattle.middleware.specs.declared.fault.Run.{Run}
use Rattle.middleware.specs.declared.fault.RunFault.{RunFault}
use Rattle.middleware.specs.declared.fault.RunFault.TheVariants as fault
use Rattle.middleware.specs.Held.{HoldNeeded}
use Rattle.middleware.specs.LaneRounds.{started}
use Rattle.middleware.specs.Needs.{AttachesNeeded}
use Rattle.middleware.specs.Needs.AttachesNeeded.{done as all_attached}
use Rattle.middleware.proofs.LaneBranching.{each_asked}
use Rattle.middleware.proofs.LaneStays.{started_each, started_stay, asked_stay, attach_stay}
use Rattle.shared_rounds.specs.SharedRounds.{Once, to_ask, wanted_in, AreRounds}
use Rattle.shared_rounds.proofs.Adding.{asked_members}
use Rattle.plan_batches.specs.Batching.{NeedsOf, needed_by_all, LanesHoldAll, CallFails, NumberFails, CapFills, HaltsFor, RoundsHalt}
use Rattle.plan_batches.specs.Batching.{AttachesAndAsksAll}
use Rattle.plan_batches.specs.Batching.AttachesAndAsksAll.{not_attached, attached}
use Rattle.plan_batches.specs.declared.fault.BatchFault.{BatchFault}
use Rattle.plan_batches.proofs.Readying.{step_accesses}
use Rattle.command_io.specs.declared.stop.Stop.{Stop}
use Rattle.command_io.specs.declared.stop.Stop.TheVariants as stop
use Rattle.command_io.specs.declared.outcome.Outcome.{Outcome}
use Rattle.command_io.specs.Status.{status_of}
use Rattle.command_io.specs.FaultLines.{Names, fault_line}
use Rattle.command_io.specs.Inputs.{Contents}
use Rattle.command_io.specs.Moments.{Moment, Between, outputs_of}
use Rattle.command_io.specs.Executing.{stop_of_run, stop_of_batch, Delivers}
use Rattle.command_io.specs.Telling.{StopsFor}
use Rattle.command_io.proofs.Later.{rose_between}
use Rattle.batch_command.specs.Deciding.{Told, plans_of, told_text, AreTold, EndsAt}
use Rattle.batch_command.specs.Deciding.EndsAt.{no_decision, untold, refuted, undecided as spent}
use Rattle.batch_command.specs.Ends.{ExecutesOrStops, StatementsEnd, BatchTextsStop, BatchEnds}
use Rattle.batch_command.specs.Ends.StatementsEnd.{halted, stopped, done as executed}
use Rattle.batch_command.specs.Ends.BatchTextsStop.{no_schema, no_batch}
use Rattle.batch_command.specs.Ends.BatchEnds.{refused, read}
use Rattle.pdq_core.specs.Runs.{ended}
use Rattle.pdq_core.specs.Complete.{IsAnswered, NoneRose, SchemaIsGiven, BatchIsGiven, Serve, HoldAllWithin, CanExecuteAll, CanBatch}
use Rattle.pdq_core.specs.Complete.IsAnswered.{done, no, undecided, no_memory}
use Rattle.pdq_core.proofs.CompleteTexts.{same_schema, same_batch, schema_stop, batch_stop, delivered_stop, decision_stop, stop_answered}
use Rattle.pdq_core.proofs.CompleteSources.{none_rose}
use Rattle.pdq_core.proofs.CompleteIntegers.{none_bad}
use Rattle.pdq_core.proofs.CompleteAttaches.{at_place, from_place, attaches_stop}
use Rattle.pdq_core.proofs.CompleteRun.{printed}

-- a fault that stops the execution of one plan for lack of memory stops a batch so too
as_batch : (number : ℕ) (why : RunFault) → stop_of_run why ≡ stop.Memory → stop_of_batch number why ≡ stop.Memory
as_batch number fault.NoMemory e = e
as_batch number (fault.NoSource rel) e = e
as_batch number (fault.UnknownKind rel) e = e
as_batch number (fault.Attach rel why) e = e
as_batch number (fault.CallFailed branch step) e = absurd (cc)
as_batch number (fault.OverCalls made wanted its) e = e
as_batch number (fault.BadNumber rel column) e = e

-- Lanes whose sources serve the relations of all plans and hold integers at their integer columns, and on which no round passes the cap.
module _ {S : Type 0} (seen : S → Seen) (schema : Schema) (plans : List Plan) (calls : ℕ) (old new : List (Lane S))
    (can : CanExecuteAll seen schema plans calls old new) where
  -- The rounds of lanes that attached these relations.
  module _ (middle : List (Lane S)) (attaches : AttachesNeeded seen schema (needed_by_all schema plans) old middle (Ok tt))
      (stays : LanesStay seen old middle) (stops : BatchFault)
      (halts : RoundsHalt seen schema plans calls stops (map started middle) new) where
    -- the requests of the round at which it stopped
    abbrev now : List Request
    now = to_ask Once halts.earlier (wanted_in halts.turns)

    -- until a failed call no count fell
    before_last : LanesStay seen old halts.middle
    before_last =
        LanesStay-trans seen old middle halts.middle stays
        (LanesStay-trans seen middle (map started middle) halts.middle (started_stay seen middle)
        (asked_stay seen schema (map started middle) halts.middle
        (each_asked seen schema halts.earlier (map started middle) halts.middle halts.whole.asks)))

    -- of a request that is wanted in the round some plan accesses the relation
    wanted_needs : (request : Request) → Contains (wanted_in halts.turns) request → NeedsOf schema plans request.rel
    wanted_needs request among =
        let (plan, turn, of, its, is) = halts.of_plans request among in (plan, of, step_accesses schema plan turn its request is)

    -- a request that was asked is one of a relation that some plan accesses
    needs : (request : Request) → Contains (halts.earlier ++ now) request → NeedsOf schema plans request.rel
    needs request among = elim ((asked_members (wanted_in halts.turns) halts.earlier request).0 among) [
      | inl c ↦ let (plan, turn, of, its, is) = halts.whole.of_plans request c in (plan, of, step_accesses schema plan turn its request is)
      | inr c ↦ wanted_needs request c
    ]

    call_stop : (number branch step : ℕ) →
        CallFails seen schema plans calls halts.n number branch step halts.earlier halts.turns halts.middle new → ⊥
    call_stop number branch step fails =
        let f = fails.cause.1 in
        let request = f.ask.request in
        let (first, was, stay) = from_place (KindsStay seen) old halts.middle before_last f.place f.before f.was in
        let moved = f.rose.rose in
        let of_round : Contains now request = subst (λ (l : List Request). Contains l request) fails.are
        (contains_map (λ (a : Ask). a.request) fails.asks f.ask (contains_got fails.asks fails.k f.ask f.at)) in
        let need = needs request (Contains-append_right halts.earlier now request of_round) in
        none_rose seen schema (NeedsOf schema plans) first.kinds.items f.after.kinds.items
        (at_place (Serve seen schema (NeedsOf schema plans)) old new can.serve f.place first f.after was f.now)
        f.before.kinds.items request.rel f.rose.line moved.before moved.after need f.rose.line_is stay moved.was moved.now moved.steps

    -- what the lanes hold when the rounds begin
    holds : HoldAllWithin seen schema plans calls middle
    holds = can.within middle attaches

    held : LanesHoldAll seen schema plans (map started middle) holds.instance
    held = started_each middle (λ kinds. HoldNeeded seen schema (NeedsOf schema plans) kinds holds.instance) holds.held

    number_stop : (number rel column : ℕ) →
        NumberFails seen schema plans calls number rel column halts.earlier halts.turns (map started middle) halts.middle new → ⊥
    number_stop number rel column fails =
        none_bad schema (NeedsOf schema plans) holds.instance holds.integers fails.turn rel column needed (fails.bad holds.instance held)
      where
        needed : (fact : Fact) → IsReceived holds.instance fails.turn fact → fact.rel ≡ rel → NeedsOf schema plans fact.rel
        needed fact (request, among, picked) same =
            let turn : Contains halts.turns fails.turn = contains_got halts.turns number fails.turn fails.at in
            subst (λ (r : ℕ). NeedsOf schema plans r) (sym picked.of_relation)
            (wanted_needs request (contains_joined (λ (l : List Request). l) halts.turns fails.turn request turn among))

    cap_stop : (number made wanted its : ℕ) →
        CapFills seen schema plans calls number made wanted its halts.earlier halts.turns halts.middle new → ⊥
    cap_stop number made wanted its fills = elim halts.are [
      | inl none ↦ none_some fills.request (subst (λ (turns : List (List Request)).
          slice_get (to_ask Once halts.earlier (wanted_in turns)) 0 ≡ Some fills.request) none fills.at)
      | inr are ↦
          let rounds : AreRounds (meaning_of schema) holds.instance plans Once (suc halts.n) (halts.earlier ++ now) =
          (halts.earlier, halts.turns, halts.whole.are holds.instance held, are holds.instance held, refl) in
          let fits = holds.within (suc halts.n) (halts.earlier ++ now) rounds in
          let long = length-append halts.earlier now in
          let over = fills.over in
          let made_is = fills.made_is in
          let most = fills.wanted_is in
          omega (arith, fits, long, over, made_is, most)
    ]

    stop_by : (number : ℕ) (why : RunFault) →
        HaltsFor seen schema plans calls halts.n halts.earlier halts.turns (map started middle) halts.middle new number why →
        stop_of_batch number why ≡ stop.Memory
    stop_by number fault.NoMemory cause = refl
    stop_by number (fault.NoSource rel) cause = absurd cause
    stop_by number (fault.UnknownKind rel) cause = absurd cause
    stop_by number (fault.Attach rel why) cause = absurd cause
    stop_by number (fault.CallFailed branch step) cause = absurd (call_stop number branch step cause)
    stop_by number (fault.OverCalls made wanted its) cause = absurd (cap_stop number made wanted its cause)
    stop_by number (fault.BadNumber rel column) cause = absurd (number_stop number rel column cause)

  -- Nothing but a lack of memory stops the execution.
  stop_for : (why : BatchFault) → AttachesAndAsksAll seen schema plans calls old new (Err why) →
      stop_of_batch why.plan why.fault ≡ stop.Memory
  stop_for why (not_attached its attaches concerns) =
      as_batch why.plan why.fault (attaches_stop seen schema (NeedsOf schema plans) old new can.some can.serve why.fault attaches)
  stop_for why (attached middle result (all_attached each have) rounds) =
      stop_by middle (all_attached each have) (attach_stay seen schema each.rels old middle each.order) why rounds
      why.plan why.fault rounds.cause

  execution_stop : (end : Stop) → ExecutesOrStops seen schema calls old new plans (Err end) → end ≡ stop.Memory
  execution_stop end (why, executes, is) = is ∙ stop_for why executes.does

  -- And so with a delivery, where the output does not fail.
  delivery_stop : (IsText : List Run → List ℕ → Type 0) (out_old out_new : Option (List ℕ)) (rose : Type 0) → (rose → ⊥) → (why : Stop) →
      Delivers (ExecutesOrStops seen schema calls old new plans) IsText out_old out_new rose (Err why) → why ≡ stop.Memory
  delivery_stop = delivered_stop (ExecutesOrStops seen schema calls old new plans) execution_stop

-- Statements whose plans can be executed together, once these are printed.
module _ {S : Type 0} (seen : S → Seen) (firings search calls : ℕ) (before after : Moment) (old new : List (Lane S))
    (calm : NoneRose before after) (schema : Schema) (statements : List Statement)
    (can : CanBatch seen firings search calls before after old new schema statements) (names : Names) where
  -- a batch that ends at one of the statements is answered
  one_answered : (number : ℕ) (statement : Statement) (start : Option (List ℕ)) (count : Between before.err_faults after.err_faults)
      (result : Result Outcome Stop) →
      EndsAt schema firings search number statement names start after.err count.faults after.err_faults result → IsAnswered (ended result)
  one_answered number statement start count result (no_decision end why) = stop_answered end (λ given e. e) why
  one_answered number statement start count result (untold decision middle later end is took why) =
      stop_answered end (decision_stop _
      (λ h. calm.err (rose_between before.err_faults count.faults later.faults after.err_faults count.begun later.ended h))) why
  one_answered number statement start count result (refuted text is took) = no
  one_answered number statement start count result (spent select log is took) = undecided

  module _ (IsText : List Plan → List Run → List ℕ → Type 0) where
    stopped_answered : (told : List Told) (middle : Option (List ℕ)) (rose : Type 0) (why end : Stop) → (rose → ⊥) →
        AreTold schema firings search statements before.err middle told →
        Delivers (ExecutesOrStops seen schema calls old new (plans_of told)) (IsText (plans_of told)) before.out after.out
        (Rose before.out_faults after.out_faults) (Err why) →
        StopsFor (λ given. given ≡ why) names middle after.err rose end → IsAnswered (status_of end)
    stopped_answered told middle rose why end none are delivery line = elim line.tells [
      | inl stays ↦
          let begins = printed (told_text 1 told) before after middle rose (fault_line names line.given) none are.took stays.1 in
          let memory = delivery_stop seen schema (plans_of told) calls old new (can told are.planned begins) (IsText (plans_of told))
          before.out after.out (Rose before.out_faults after.out_faults) calm.out why delivery in
          subst (λ (s : Stop). IsAnswered (status_of s)) (sym (stays.0 ∙ line.cause ∙ memory)) no_memory
      | inr wanted ↦ subst (λ (s : Stop). IsAnswered (status_of s)) (sym wanted.0) no_memory
    ]

    statements_answered : (result : Result Outcome Stop) →
        StatementsEnd schema statements firings search (ExecutesOrStops seen schema calls old new) IsText names
        (outputs_of before) (outputs_of after) old new result → IsAnswered (ended result)
    statements_answered result (halted same_result halts quiet same) =
        one_answered _ halts.statement halts.middle halts.count result halts.at_it
    statements_answered result (stopped told middle count why end are delivery line) =
        stopped_answered told middle _ why end
        (λ h. calm.err (rose_between before.err_faults count.faults after.err_faults after.err_faults count.begun (omega arith) h))
        are delivery line
    statements_answered result (executed told are delivery) = done

batch_texts_stop : (told : Option Contents) (name queries : List ℕ) (rose : Type 0) → (rose → ⊥) →
    (schema : Schema) (statements : List Statement) → SchemaIsGiven told name schema → BatchIsGiven told queries schema statements →
    (end : Stop) → BatchTextsStop told name queries rose end → end ≡ stop.Memory
batch_texts_stop told name queries rose calm schema statements given batch_given end (no_schema its why) =
    schema_stop told name rose calm schema given its why
batch_texts_stop told name queries rose calm schema statements given batch_given end (no_batch other its is why) =
    let schemas = same_schema told name schema other given is in
    batch_stop told queries rose calm other statements
    (subst (λ (s : Schema). BatchIsGiven told queries s statements) schemas batch_given) its why

module _ {S : Type 0} (seen : S → Seen) (name queries : List ℕ) (firings search calls : ℕ) (before after : Moment) (old new : List (Lane S))
    (calm : NoneRose before after) (schema : Schema) (statements : List Statement) (given : SchemaIsGiven before.files name schema)
    (batch_given : BatchIsGiven before.files queries schema statements)
    (can : CanBatch seen firings search calls before after old new schema statements) where
  pub batch_answered : (result : Result Outcome Stop) →
      BatchEnds seen name queries (record { firings = firings; search = search; calls = calls }) before after old new
      result → IsAnswered (ended result)
  batch_answered result (refused end why quiet same) =
      stop_answered end (batch_texts_stop before.files name queries _ calm.files schema statements given batch_given) why
  batch_answered result (read other its same_result is are ends) =
      let schemas = same_schema before.files name schema other given is in
      let batch_is : BatchIsGiven before.files queries other statements =
      subst (λ (s : Schema). BatchIsGiven before.files queries s statements) schemas batch_given in
      let able : CanBatch seen firings search calls before after old new other its =
      subst (λ (l : List Statement). CanBatch seen firings search calls before after old new other l)
      (same_batch before.files queries other statements its batch_is are)
      (subst (λ (s : Schema). CanBatch seen firings search calls before after old new s statements) schemas can) in
      statements_answered seen firings search calls before after old new calm other its able
      (record { schema = name; query = queries; plan = []; relations = other.relations }) _ result ends
