-- The status of a run with the rules tested first says what was decided of the statement, or found of the rows.
use Rattle.std.proofs.Common.{◌≡◌, ◌⊎◌, inl, inr, ℕ, true, false, List, [], ◌∷◌, take, map, Option, None, Some, Result, Ok, Err, refl, sym, subst, true≢false}
use Rattle.meaning.specs.declared.types.Fact.{Fact}
use Rattle.meaning.specs.declared.types.Plan.{Plan}
use Rattle.meaning.specs.declared.types.Statement.{Statement}
use Rattle.access_schema.specs.declared.schema.Schema.{Schema}
use Rattle.proof_search.specs.Plans.{HasNoPlan}
use Rattle.source_trait.specs.Asking.{Seen}
use Rattle.source_trait.specs.declared.lanes.Lane.{Lane}
use Rattle.middleware.specs.declared.fault.Run.{Run as Run_of}
use Rattle.middleware.specs.Held.{HoldNeeded}
use Rattle.middleware.specs.LaneRounds.{started}
use Rattle.middleware.proofs.Branching.{relation_earlier}
use Rattle.middleware.proofs.LaneShares.{OnlyAsked}
use Rattle.middleware.proofs.LaneBranching.{each_asked}
use Rattle.data_verify.specs.declared.broken.Broken.{Broken}
use Rattle.rule_rows.specs.RuleRelations.{RulesName, needed_verified}
use Rattle.rule_rows.specs.Verifying.{Tests, Verifies, used}
use Rattle.rule_rows.specs.Verifying.Tests.{done as tests_done}
use Rattle.rule_rows.specs.Verifying.Verifies.{tested}
use Rattle.rule_rows.specs.Executing.{RunsVerified}
use Rattle.rule_rows.specs.Executing.RunsVerified.{not_met, ran}
use Rattle.rule_rows.specs.declared.fault.WholeFault.TheVariants as whole_fault
use Rattle.rule_rows.specs.declared.fault.VerifyFault.{VerifyFault}
use Rattle.rule_rows.specs.declared.fault.VerifyFault.TheVariants as verify_fault
use Rattle.rule_rows.specs.declared.fault.VerifiedFault.{VerifiedFault}
use Rattle.rule_rows.specs.declared.fault.VerifiedFault.TheVariants as verified_fault
use Rattle.command_io.specs.declared.exit_status.Status.{Status}
use Rattle.command_io.specs.declared.stop.Stop.{Stop}
use Rattle.command_io.specs.declared.outcome.Outcome.{Outcome}
use Rattle.command_io.specs.Status.{status_of}
use Rattle.command_io.specs.Inputs.{Contents, SchemaIsRead, QueryIsRead}
use Rattle.command_io.specs.Moments.{Moment, Outputs, outputs_of}
use Rattle.command_io.specs.FaultLines.{Names}
use Rattle.command_io.specs.Executing.{Delivers}
use Rattle.command_io.specs.Executing.Delivers.{no_rows, no_text, cut, done as delivered}
use Rattle.command_io.specs.Verified.{stop_of_verify, IsVerifiedStop, VerifiesOrStops}
use Rattle.command_words.specs.Words.{Command, IsCommand}
use Rattle.command_words.specs.Words.Command.{Help, Schema as Print, Explain, Run, Batch, Exec, Check, Verify, Crawl, Reach, World}
use Rattle.run_command.specs.Ends.{carries_out, StatementEnds}
use Rattle.run_command.specs.Ends.StatementEnds.{no_decision, untold, refuted, undecided, stopped, done}
use Rattle.run_command.specs.Ends.RunEnds.{refused, read}
use Rattle.pdq_core.specs.Runs.{Runs, ended}
use Rattle.pdq_core.specs.Runs.Runs.{no_command, help, schema as print_schema, explain, run, batch, exec, check, verify, crawl, reach, world}
use Rattle.pdq_core.specs.Statuses.{HasPlan, RunsOn, ReadAs}
use Rattle.pdq_core.specs.Verified.{AreMet, AreBroken, SaysVerified, SaysOfVerified}
use Rattle.pdq_core.proofs.Refusals.{IsPlain, plain_or_not, plain_says, memory_plain, run_plain, result_plain, decision_plain, texts_plain, plain_end}
use Rattle.pdq_core.proofs.Decided.{longer, has_plan}

-- ---- what was found of the rows

verify_plain : (why : VerifyFault) → IsPlain (stop_of_verify why)
verify_plain (verify_fault.NotAttached why) = run_plain why
verify_plain (verify_fault.NotAsked whole_fault.NoMemory) = tt
verify_plain (verify_fault.NotAsked (whole_fault.CallFailed rel)) = tt
verify_plain (verify_fault.NotAsked (whole_fault.BadNumber rel column)) = tt

module _ {S : Type 0} (seen : S → Seen) (schema : Schema) (plan : Plan) (calls : ℕ) (old new : List (Lane S)) where
  broken_held : (broken : Broken) → Verifies seen schema (needed_verified schema plan) old new (Ok (Some broken)) → AreBroken seen new schema
  broken_held broken (tested middle found attaches tests) = go tests.tests
    where
      go : Tests seen schema tests.rels (used middle) (used new) (Ok (Some broken)) → AreBroken seen new schema
      go (tests_done found finds) = λ instance holds meets. absurd (true≢false ((finds.of_held instance holds).met.1 meets))

  fault_stops : (why : VerifiedFault) (end : Stop) → RunsVerified seen schema plan calls old new (Err why) → IsVerifiedStop schema why end →
      IsPlain end ⊎ AreBroken seen new schema
  fault_stops (verified_fault.NotVerified why) end runs is = inl (subst IsPlain (sym is) (verify_plain why))
  fault_stops (verified_fault.NotMet broken) end (not_met its verifies) is = elim is [
    | inl line ↦ inr (broken_held broken verifies)
    | inr memory ↦ inl (memory_plain end memory)
  ]
  fault_stops (verified_fault.NotExecuted why) end runs is = inl (subst IsPlain (sym is) (run_plain why))

  delivery_stops : (IsText : Run_of → List ℕ → Type 0) (out_old out_new : Option (List ℕ)) (rose : Type 0) (why : Stop) →
      Delivers (VerifiesOrStops seen schema plan calls old new) IsText out_old out_new rose (Err why) → IsPlain why ⊎ AreBroken seen new schema
  delivery_stops IsText out_old out_new rose why (no_rows end (its, runs, is) same) = fault_stops its end runs is
  delivery_stops IsText out_old out_new rose why (no_text its runs same) = inl tt
  delivery_stops IsText out_old out_new rose why (cut its text end runs given part cause) = inl (result_plain rose end cause)

  -- what the first lane holds after the rounds it held before them
  held_earlier : (middle : List (Lane S)) → OnlyAsked seen schema (map started middle) new → (instance : List Fact) →
      HoldNeeded seen schema (RulesName schema) (used new) instance → HoldNeeded seen schema (RulesName schema) (used middle) instance
  held_earlier middle asked instance = go middle new asked
    where
      go : (ws us : List (Lane S)) → OnlyAsked seen schema (map started ws) us → HoldNeeded seen schema (RulesName schema) (used us) instance →
          HoldNeeded seen schema (RulesName schema) (used ws) instance
      go [] [] its holds = holds
      go [] (u ∷ us) its holds = absurd its
      go (w ∷ ws) [] its holds = absurd its
      go (w ∷ ws) (u ∷ us) its holds = λ rel line named is.
          relation_earlier seen schema its.0.0 w.kinds.items u.kinds.items its.0.1 line.kind rel instance (holds rel line named is)

  rules_met : (its : Run_of) → RunsVerified seen schema plan calls old new (Ok its) → AreMet seen new schema
  rules_met its (ran middle its_run (tested before found attaches tests) executes) = go tests.tests
    where
      asked : OnlyAsked seen schema (map started middle) new
      asked = let rounds = executes.does in each_asked seen schema rounds.list (map started middle) new rounds.asks

      go : Tests seen schema tests.rels (used before) (used middle) (Ok None) → AreMet seen new schema
      go (tests_done _ finds) = λ instance holds. (finds.of_held instance (held_earlier middle asked instance holds)).met.0 refl

  delivery_met : (IsText : Run_of → List ℕ → Type 0) (out_old out_new : Option (List ℕ)) (rose : Type 0) →
      Delivers (VerifiesOrStops seen schema plan calls old new) IsText out_old out_new rose (Ok tt) → AreMet seen new schema
  delivery_met IsText out_old out_new rose (delivered its text runs given took) = rules_met its runs

-- ---- what the status says

module _ {S : Type 0} (seen : S → Seen) (told : Option Contents) (name query : List ℕ) (firings : ℕ) (lanes : List (Lane S)) where
  stop_says : (end : Stop) → IsPlain end → SaysVerified seen lanes (status_of end) told name query firings
  stop_says = plain_says (λ status. SaysVerified seen lanes status told name query firings) tt tt tt tt tt tt

  module _ (schema : Schema) (statement : Statement) (is : SchemaIsRead told name schema) (are : QueryIsRead told query schema statement) where
    read_as : (P : Schema → Statement → Type 0) → P schema statement → ReadAs told name query P
    read_as P so = record { schema = schema; statement = statement; schema_is = is; statement_is = are; so = so }

    broken_says : (end : Stop) → AreBroken seen lanes schema → SaysVerified seen lanes (status_of end) told name query firings
    broken_says end broken = elim (plain_or_not end) [
      | inl plain ↦ stop_says end plain
      | inr other ↦ subst (λ (s : Stop). SaysVerified seen lanes (status_of s) told name query firings) (sym other.1)
          (read_as (λ schema statement. HasNoPlan schema statement ⊎ AreBroken seen lanes schema) (inr broken))
    ]

    run_says : (search calls : ℕ) (IsText : Plan → Run_of → List ℕ → Type 0) (names : Names) (before after : Outputs) (old : List (Lane S)) (result : Result Outcome Stop) →
        StatementEnds schema statement firings search (carries_out seen schema calls true old lanes) IsText names before after old lanes result →
        SaysVerified seen lanes (ended result) told name query firings
    run_says search calls IsText names before after old result (no_decision end why quiet same) = stop_says end (plain_end end memory_plain why)
    run_says search calls IsText names before after old result (untold decision middle count end decided took why quiet same) =
        stop_says end (plain_end end (decision_plain _) why)
    run_says search calls IsText names before after old result (refuted text refutes took quiet same) =
        read_as (λ schema statement. HasNoPlan schema statement ⊎ AreBroken seen lanes schema) (inl refutes.refutes.none)
    run_says search calls IsText names before after old result (undecided select log spent took quiet same) =
        read_as (RunsOn firings) (longer schema statement firings select log spent)
    run_says search calls IsText names before after old result (stopped plan entries middle count why end planned took delivery line) =
        elim (delivery_stops seen schema plan calls old lanes _ _ _ _ why delivery) [
          | inl plain ↦ stop_says end (plain_end end (λ given e. subst IsPlain (sym e) plain) line)
          | inr broken ↦ broken_says end broken
        ]
    run_says search calls IsText names before after old result (done plan entries planned took delivery) =
        read_as (λ schema statement. HasPlan schema statement × AreMet seen lanes schema)
        (has_plan schema statement firings search plan entries planned, delivery_met seen schema plan calls old lanes _ _ _ _ delivery)

module _ {S : Type 0} (seen : S → Seen) (words : List (List ℕ)) (command : Command) (before after : Moment) (old new : List (Lane S))
    (one : (other : Command) → IsCommand words command → IsCommand words other → command ≡ other) (is : IsCommand words command) where
  its : (other : Command) (status : Status) → IsCommand words other → SaysOfVerified seen other before.files new status → SaysOfVerified seen command before.files new status
  its other status also says = subst (λ (c : Command). SaysOfVerified seen c before.files new status) (sym (one other is also)) says

  says : (status : Status) → Runs seen words before after old new status → SaysOfVerified seen command before.files new status
  says status (no_command end none why quiet same) = absurd (none command is)
  says status (help result also ends same) = its Help (ended result) also tt
  says status (print_schema name result also ends same) = its (Print name) (ended result) also tt
  says status (explain name query firings search result also ends same) = its (Explain name query firings search) (ended result) also tt
  says status (run name query firings search workers calls false result also ends behind) = its (Run name query firings search workers calls false) (ended result) also tt
  says status (run name query firings search workers calls true result also (refused end why quiet same) behind) =
      its (Run name query firings search workers calls true) (status_of end) also
      (stop_says seen before.files name query firings (take workers new) end (plain_end end (texts_plain before.files name query _) why))
  says status (run name query firings search workers calls true result also (read schema statement same_result schema_is statement_is ends) behind) =
      its (Run name query firings search workers calls true) (ended result) also
      (run_says seen before.files name query firings (take workers new) schema statement schema_is statement_is search calls _
      (record { schema = name; query = query; plan = []; relations = schema.relations }) (outputs_of before) (outputs_of after) (take workers old) result ends)
  says status (batch name queries firings search workers calls result also ends behind) =
      its (Batch name queries firings search workers calls) (ended result) also tt
  says status (exec name plan workers calls result also ends behind) = its (Exec name plan workers calls) (ended result) also tt
  says status (check name query plan firings result also ends same) = its (Check name query plan firings) (ended result) also tt
  says status (verify name result also ends) = its (Verify name) (ended result) also tt
  says status (crawl name workers calls result also ends behind) = its (Crawl name workers calls) (ended result) also tt
  says status (reach name query workers calls result also ends behind) = its (Reach name query workers calls) (ended result) also tt
  says status (world size workers result also ends behind) = its (World size workers) (ended result) also tt

pub verified_whole : {S : Type 0} (seen : S → Seen) → ((words : List (List ℕ)) (command other : Command) → IsCommand words command → IsCommand words other → command ≡ other) →
    (words : List (List ℕ)) (command : Command) (before after : Moment) (old new : List (Lane S)) (status : Status) →
    Runs seen words before after old new status → IsCommand words command → SaysOfVerified seen command before.files new status
verified_whole seen one words command before after old new status runs is = says seen words command before after old new (one words command) is status runs
