-- How a world ends over lanes with new generators.
use Rattle.std.proofs.Common.{◌≡◌, ◌+◌, ◌*◌, ◌<◌, ◌≤◌, ℕ, List, [], length, map, slice_get, Option, Some, Result, Ok, Err, refl, sym, ap, subst, ◌∙◌, ⊎_elim, arith}
use Rattle.std.specs.Prelude.{◌↔◌, Contains, codes}
use Rattle.std.specs.List.Sorted.{IsStrictlySortedBy}
use Rattle.std.specs.declared.cmp.Ordering.TheVariants.{Less}
use Rattle.std.proofs.lemmas.Bool.{cases_lt}
use Rattle.std.proofs.lemmas.Map.Keys.{Less-from_sorted}
use Rattle.std.proofs.lemmas.Option.{slice_get_within, get_or_from_slice_get}
use Rattle.lists.proofs.Orders.{rows_total}
use Rattle.meaning.specs.declared.types.Plan.{Plan}
use Rattle.meaning.specs.declared.types.SchemaParts.{SchemaParts}
use Rattle.meaning.specs.declared.types.Statement.{Statement}
use Rattle.meaning.specs.Answers.{Answers}
use Rattle.meaning.specs.Claims.{IsModel}
use Rattle.access_schema.specs.declared.schema.Schema.{Schema}
use Rattle.access_schema.specs.Meaning.{meaning_of}
use Rattle.access_schema.specs.Names.{AllDiffer}
use Rattle.source_trait.specs.Asking.{RowList, Seen}
use Rattle.source_trait.specs.Causes.{Rose}
use Rattle.source_trait.specs.Lanes.{LanesStay}
use Rattle.source_trait.specs.declared.lanes.Lane.{Lane}
use Rattle.row_text.specs.RowText.{row_cmp}
use Rattle.findings.specs.declared.decision.Chosen.{Chosen}
use Rattle.findings.specs.declared.decision.Decision.TheVariants as decision
use Rattle.middleware.specs.declared.fault.Run.{Run}
use Rattle.middleware.specs.PlanSources.{IsAccessed}
use Rattle.middleware.specs.LaneRounds.{started}
use Rattle.middleware.specs.LaneBranches.{OnEach, LanesHoldPlan}
use Rattle.middleware.specs.Needs.AttachesNeeded.{done as all_done}
use Rattle.plan_execution.specs.Running.{AttachesAndAsks}
use Rattle.plan_execution.specs.Running.AttachesAndAsks.{attached}
use Rattle.middleware.proofs.LaneBranching.{each_asked}
use Rattle.command_io.specs.declared.delivery.TheConstants.{CALLS}
use Rattle.command_io.specs.declared.stop.Stop.{Stop}
use Rattle.command_io.specs.declared.stop.Stop.TheVariants as stop
use Rattle.command_io.specs.declared.outcome.Outcome.{Outcome}
use Rattle.command_io.specs.declared.outcome.Outcome.TheVariants as outcome
use Rattle.command_io.specs.Moments.{Outputs, ResultStop, DecisionStop}
use Rattle.command_io.specs.Moments.ResultStop.{no_memory as result_memory, sink_failed as result_failed}
use Rattle.command_io.specs.Moments.DecisionStop.{no_memory as decision_memory, sink_failed as decision_failed}
use Rattle.command_io.specs.FaultLines.{Names}
use Rattle.command_io.specs.Telling.{StopsFor}
use Rattle.command_io.specs.Reports.{summary}
use Rattle.command_io.specs.Writing.{TookAll}
use Rattle.command_io.specs.Executing.{ExecutesOrStops, Delivers}
use Rattle.command_io.specs.Executing.Delivers.{done as delivered, no_rows, no_text, cut}
use Rattle.command_io.proofs.Later.{rose_between}
use Rattle.run_command.specs.Deciding.{IsPlanned, plan}
use Rattle.run_command.specs.Ends.{StatementEnds}
use Rattle.run_command.specs.Ends.StatementEnds.{no_decision, untold, refuted, undecided, stopped, done as executed}
use Rattle.run_command.specs.World.{IsSummary, WorldEnds, WorldStop}
use Rattle.run_command.specs.World.WorldEnds.{refused, read}
use Rattle.run_command.specs.World.WorldStop.{no_memory as world_memory, no_schema, no_statement}
use Rattle.run_command.specs.declared.world.TheConstants.{FIRINGS, UNITS}
use Rattle.pdq_core.specs.Complete.{NoRiseOf, NoSourceRose, OfferInstance, CanExecute}
use Rattle.pdq_core.proofs.CompleteAttaches.{on_lanes}
use Rattle.pdq_core.proofs.CompleteExecution.{all_attached, execution_stop}
use Rattle.pdq_core.proofs.CompleteOffers.{lanes_hold, offers_execute}
use Rattle.world_laws.specs.World.{IsWorldSchema, world_statement}
use Rattle.world_laws.specs.Instance.{world_facts}
use Rattle.world_laws.proofs.Read.{world_meaning, world_alone, world_no_fault}
use Rattle.world_laws.proofs.Query.{no_integers, statement_alone, query_no_fault}
use Rattle.world_laws.proofs.Counts.{model, rows_counted}
use Rattle.run_laws.specs.Deciding.{HasOneBranch}
use Rattle.pdq_core.specs.Generators.{HasGenerator}
use Rattle.run_laws.specs.Ends.{WorldIsOver, done, no_memory, no_decision_write, no_result_write}
use Rattle.run_laws.proofs.Deciding.{decided, never_refuted, never_undecided}
use Rattle.run_laws.proofs.Generators.{generator_offers, lanes_calm, world_calm, keeps_cap, requests_made}

-- ---- rows that ascend

ascend_once : (rows : RowList) → IsStrictlySortedBy row_cmp rows → AllDiffer rows
ascend_once rows up i j row at_i at_j = ⊎_elim
    (λ (less : i < j). absurd (never i j less at_i at_j))
    (λ (high : j ≤ i). ⊎_elim (λ (less : j < i). absurd (never j i less at_j at_i)) (λ (low : i ≤ j). omega (arith, high, low)) (cases_lt j i))
    (cases_lt i j)
  where
    never : (i j : ℕ) → i < j → slice_get rows i ≡ Some row → slice_get rows j ≡ Some row → ⊥
    never i j less at_i at_j =
        let below = Less-from_sorted row_cmp rows i j row up less (slice_get_within rows j row at_j) in
        let itself : row_cmp row row ≡ Less = rw (get_or_from_slice_get rows i row row at_i, get_or_from_slice_get rows j row row at_j) at below in
        let back = rows_total.antisymm row row in
        cc

-- ---- ends

-- a command that stops for one of some causes, or for lack of memory
stops_with : {Cause : Stop → Type 0} {names : Names} {old new : Option (List ℕ)} {rose : Type 0} (P : Stop → Type 0) (end : Stop) → P stop.Memory → ((given : Stop) → Cause given → P given) → StopsFor Cause names old new rose end → P end
stops_with P end memory all why = ⊎_elim (λ stays. subst P (sym stays.0) (all why.given why.cause)) (λ wanted. subst P (sym wanted.0) memory) why.tells

-- texts of a world are refused for lack of memory alone
pub only_memory : (size : ℕ) (end : Stop) → size ≤ 10000 → WorldStop size end → end ≡ stop.Memory
only_memory size _ few world_memory = refl
only_memory size _ few (no_schema fault apart is) = absurd (apart (world_no_fault size (omega (arith, few)) fault is))
only_memory size _ few (no_statement schema fault is apart why) = absurd (apart (query_no_fault size schema fault (world_alone size (omega (arith, few)) schema is) why))

module _ {S : Type 0} (seen : S → Seen) (size : ℕ) (some : 1 ≤ size) (few : size ≤ 10000) (before after : Outputs) (old new : List (Lane S)) (lane : 0 < length old) (lanes : OnEach old (HasGenerator seen)) (stay : LanesStay seen old new) where
  abbrev IsOver : Stop → Type 0
  IsOver end = WorldIsOver size before after (Err end)

  world_stop : (end : Stop) → WorldStop size end → IsOver end
  world_stop end why = subst IsOver (sym (only_memory size end few why)) no_memory

  decision_stop : (middle : ℕ) → before.err_faults ≤ middle → middle ≤ after.err_faults → (end : Stop) → DecisionStop (Rose before.err_faults middle) end → IsOver end
  decision_stop middle begun ended _ decision_memory = no_memory
  decision_stop middle begun ended _ (decision_failed rose) = no_decision_write (rose_between before.err_faults before.err_faults middle after.err_faults (omega arith) ended rose)

  result_stop : (end : Stop) → ResultStop (Rose before.out_faults after.out_faults) end → IsOver end
  result_stop _ result_memory = no_memory
  result_stop _ (result_failed rose) = no_result_write rose

  module _ (schema : Schema) (is : IsWorldSchema size schema) (its : Plan) (entries : List Chosen) (planned : IsPlanned schema world_statement FIRINGS UNITS its entries) where
    one : HasOneBranch its
    one = (decided size schema is (decision.Plan its entries) (plan its entries planned.is planned.fits planned.chosen)).0

    offers : OnEach old (λ kinds. OfferInstance seen schema (IsAccessed schema its) kinds (world_facts size))
    offers l among = generator_offers size some few schema is seen l.kinds.items (lanes l among) its

    can : CanExecute seen schema its CALLS old new
    can = offers_execute seen schema its CALLS old new (world_facts size) (λ rel needed. lane) offers
        (on_lanes (NoRiseOf seen (codes "world")) (NoSourceRose seen schema (IsAccessed schema its)) (world_calm size some few schema is seen its) old new (lanes_calm seen old new stay lanes))
        (λ fact among needed column value holds at. absurd (no_integers size schema is fact.rel column holds))
        (keeps_cap size some few schema is its one)

    stops : (IsText : Run → List ℕ → Type 0) (why : Stop) → Delivers (ExecutesOrStops seen schema its CALLS old new) IsText before.out after.out (Rose before.out_faults after.out_faults) (Err why) → IsOver why
    stops IsText _ (no_rows end (fault, executes, is_end) same) =
        subst IsOver (sym (is_end ∙ execution_stop seen schema its CALLS old new can fault executes)) no_memory
    stops IsText _ (no_text run executes same) = no_memory
    stops IsText _ (cut run text end executes is_text part cause) = result_stop end cause

    held : (run : Run) → AttachesAndAsks seen schema its CALLS old new (Ok run) → LanesHoldPlan seen schema its new (world_facts size)
    held run (attached middle result (all_done each have) rounds) =
        lanes_hold seen schema its (world_facts size) old new offers
        (all_attached seen schema its old middle new each (each_asked seen schema rounds.list (map started middle) new rounds.asks))

    over : Delivers (ExecutesOrStops seen schema its CALLS old new) (IsSummary seen size schema world_statement new its) before.out after.out (Rose before.out_faults after.out_faults) (Ok tt) → WorldIsOver size before after (Ok outcome.Done)
    over (delivered run text executes is_text took) =
        let meant = world_meaning size schema is in
        let hold = held run executes.does in
        let (requests, are, made_is) = executes.made (world_facts size) hold in
        let made : run.made ≡ 7 * size + 1 = made_is ∙ requests_made size some few schema is its one requests are in
        let holds : IsModel (meaning_of schema) (world_facts size) = subst (λ (s : SchemaParts). IsModel s (world_facts size)) (sym meant) (model size some few) in
        let same : (row : List (List ℕ)) → Contains run.rows row ↔ Answers world_statement (world_facts size) row = λ row. (
          λ there. planned.is.equivalent.sound (world_facts size) row holds ((executes.rows (world_facts size) hold row).0 there),
          λ answer. (executes.rows (world_facts size) hold row).1 (planned.is.equivalent.complete (world_facts size) row holds answer),
        ) in
        let count = rows_counted size some few run.rows (ascend_once run.rows executes.ascends) same in
        done run.rows count (subst (TookAll before.out after.out) (is_text.given ∙ ap (λ made. summary size made run.rows) made) took)

  statement_over : (schema : Schema) → IsWorldSchema size schema → (names : Names) (result : Result Outcome Stop) →
      StatementEnds schema world_statement FIRINGS UNITS (λ plan. ExecutesOrStops seen schema plan CALLS old new) (IsSummary seen size schema world_statement new) names before after old new result → WorldIsOver size before after result
  statement_over schema is names _ (no_decision end why quiet same) = stops_with IsOver end no_memory (λ given memory. subst IsOver (sym memory) no_memory) why
  statement_over schema is names _ (untold decision middle count end of took why quiet same) = stops_with IsOver end no_memory (λ given cause. decision_stop count.faults count.begun count.ended given cause) why
  statement_over schema is names _ (refuted text pair took quiet same) = absurd (never_refuted size schema is pair.pair pair.refutes)
  statement_over schema is names _ (undecided select log spent took quiet same) = absurd (never_undecided size schema is select log spent)
  statement_over schema is names _ (stopped its entries middle count why end planned took delivery told) =
      stops_with IsOver end no_memory (λ given same. subst IsOver (sym same) (stops schema is its entries planned (IsSummary seen size schema world_statement new its) why delivery)) told
  statement_over schema is names _ (executed its entries planned took delivery) = over schema is its entries planned delivery

  pub world_over : (result : Result Outcome Stop) → WorldEnds seen size before after old new result → WorldIsOver size before after result
  world_over _ (refused end why quiet same) = stops_with IsOver end no_memory world_stop why
  world_over result (read schema statement same_result is are ends) =
      let own = world_alone size (omega (arith, few)) schema is in
      let same = statement_alone size schema statement own are in
      let names : Names = record { schema = []; query = []; plan = []; relations = schema.relations } in
      statement_over schema own names result
      (subst (λ (t : Statement). StatementEnds schema t FIRINGS UNITS (λ plan. ExecutesOrStops seen schema plan CALLS old new) (IsSummary seen size schema t new) names before after old new result) same ends)
