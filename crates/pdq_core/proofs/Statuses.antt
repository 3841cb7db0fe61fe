-- The status of a run says what was decided of the statement.
use Rattle.std.proofs.Common.{◌≡◌, ℕ, true, false, List, [], take, Option, Result, sym, subst}
use Rattle.meaning.specs.declared.types.Plan.{Plan}
use Rattle.meaning.specs.declared.types.Statement.{Statement}
use Rattle.access_schema.specs.declared.schema.Schema.{Schema}
use Rattle.proof_search.specs.Plans.{HasNoPlan}
use Rattle.source_trait.specs.Asking.{Seen}
use Rattle.source_trait.specs.declared.lanes.Lane.{Lane}
use Rattle.middleware.specs.declared.fault.Run.{Run as Run_of}
use Rattle.command_io.specs.declared.exit_status.Status.{Status}
use Rattle.command_io.specs.declared.stop.Stop.{Stop}
use Rattle.command_io.specs.declared.outcome.Outcome.{Outcome}
use Rattle.command_io.specs.Status.{status_of}
use Rattle.command_io.specs.Inputs.{Contents, SchemaIsRead, QueryIsRead}
use Rattle.command_io.specs.Moments.{Moment, Outputs, outputs_of}
use Rattle.command_io.specs.FaultLines.{Names}
use Rattle.command_words.specs.Words.{Command, IsCommand}
use Rattle.command_words.specs.Words.Command.{Help, Schema as Print, Explain, Run, Batch, Exec, Check, Verify, Crawl, Reach, World}
use Rattle.run_command.specs.Deciding.Shows.{plan as shows_plan, no_plan as shows_none, undecided as shows_log}
use Rattle.run_command.specs.Explained.{DecisionEnds}
use Rattle.run_command.specs.Explained.DecisionEnds.{no_decision as nothing_shown, cut as shown_part, shown}
use Rattle.run_command.specs.Explained.ExplainEnds.{refused as not_explained, read as explained}
use Rattle.run_command.specs.Ends.{carries_out, StatementEnds}
use Rattle.run_command.specs.Ends.StatementEnds.{no_decision, untold, refuted, undecided, stopped, done}
use Rattle.run_command.specs.Ends.RunEnds.{refused, read}
use Rattle.pdq_core.specs.Runs.{Runs, ended}
use Rattle.pdq_core.specs.Runs.Runs.{no_command, help, schema as print_schema, explain, run, batch, exec, check, verify, crawl, reach, world}
use Rattle.pdq_core.specs.Statuses.{HasPlan, RunsOn, ReadAs, Says, SaysOf}
use Rattle.pdq_core.proofs.Refusals.{IsPlain, plain_says, memory_plain, result_plain, decision_plain, texts_plain, delivery_plain, plain_end}
use Rattle.pdq_core.proofs.Decided.{longer, has_plan}
use Rattle.pdq_core.proofs.BatchStatuses.{batch_says}
use Rattle.pdq_core.proofs.CheckStatuses.{checked_says}
use Rattle.pdq_core.proofs.CrawlStatuses.{crawl_says, reach_says}

module _ (told : Option Contents) (name query : List ℕ) (firings : ℕ) where
  -- the status of a plain stop says nothing of the statement
  stop_says : (end : Stop) → IsPlain end → Says (status_of end) told name query firings
  stop_says = plain_says (λ status. Says status told name query firings) tt tt tt tt tt tt

  module _ (schema : Schema) (statement : Statement) (is : SchemaIsRead told name schema) (are : QueryIsRead told query schema statement) where
    read_as : (P : Schema → Statement → Type 0) → P schema statement → ReadAs told name query P
    read_as P so = record { schema = schema; statement = statement; schema_is = is; statement_is = are; so = so }

    explained_says : (search : ℕ) (names : Names) (before after : Outputs) (result : Result Outcome Stop) → DecisionEnds schema statement firings search names before after result →
        Says (ended result) told name query firings
    explained_says search names before after result (nothing_shown end why quiet) = stop_says end (plain_end end memory_plain why)
    explained_says search names before after result (shown_part decision end decided took why) = stop_says end (plain_end end (result_plain _) why)
    explained_says search names before after result (shown text outcome (shows_plan plan entries planned text_is) took quiet) = read_as HasPlan (has_plan schema statement firings search plan entries planned)
    explained_says search names before after result (shown text outcome (shows_none refutes) took quiet) = read_as HasNoPlan refutes.refutes.none
    explained_says search names before after result (shown text outcome (shows_log select log spent text_is) took quiet) =
        read_as (RunsOn firings) (longer schema statement firings select log spent)

    run_says : {S : Type 0} (seen : S → Seen) (search calls : ℕ) (IsText : Plan → Run_of → List ℕ → Type 0) (names : Names) (before after : Outputs) (old new : List (Lane S)) (result : Result Outcome Stop) →
        StatementEnds schema statement firings search (carries_out seen schema calls false old new) IsText names before after old new result → Says (ended result) told name query firings
    run_says seen search calls IsText names before after old new result (no_decision end why quiet same) = stop_says end (plain_end end memory_plain why)
    run_says seen search calls IsText names before after old new result (untold decision middle count end decided took why quiet same) = stop_says end (plain_end end (decision_plain _) why)
    run_says seen search calls IsText names before after old new result (refuted text refutes took quiet same) = read_as HasNoPlan refutes.refutes.none
    run_says seen search calls IsText names before after old new result (undecided select log spent took quiet same) = read_as (RunsOn firings) (longer schema statement firings select log spent)
    run_says seen search calls IsText names before after old new result (stopped plan entries middle count why end planned took delivery line) =
        stop_says end (plain_end end (λ given e. subst IsPlain (sym e) (delivery_plain seen schema plan calls old new _ _ _ _ why delivery)) line)
    run_says seen search calls IsText names before after old new result (done plan entries planned took delivery) = read_as HasPlan (has_plan schema statement firings search plan entries planned)

module _ {S : Type 0} (seen : S → Seen) (words : List (List ℕ)) (command : Command) (before after : Moment) (old new : List (Lane S)) (one : (other : Command) → IsCommand words command → IsCommand words other → command ≡ other) (is : IsCommand words command) where
  its : (other : Command) (status : Status) → IsCommand words other → SaysOf other before.files status → SaysOf command before.files status
  its other status also says = subst (λ (c : Command). SaysOf c before.files status) (sym (one other is also)) says

  pub says : (status : Status) → Runs seen words before after old new status → SaysOf command before.files status
  says status (no_command end none why quiet same) = absurd (none command is)
  says status (help result also ends same) = its Help (ended result) also tt
  says status (print_schema name result also ends same) = its (Print name) (ended result) also tt
  says status (explain name query firings search result also (not_explained end why quiet) same) =
      its (Explain name query firings search) (status_of end) also (stop_says before.files name query firings end (plain_end end (texts_plain before.files name query _) why))
  says status (explain name query firings search result also (explained schema statement same_result schema_is statement_is ends) same) =
      its (Explain name query firings search) (ended result) also
      (explained_says before.files name query firings schema statement schema_is statement_is search (record { schema = name; query = query; plan = []; relations = schema.relations }) (outputs_of before) (outputs_of after) result ends)
  says status (run name query firings search workers calls true result also ends behind) = its (Run name query firings search workers calls true) (ended result) also tt
  says status (run name query firings search workers calls false result also (refused end why quiet same) behind) =
      its (Run name query firings search workers calls false) (status_of end) also (stop_says before.files name query firings end (plain_end end (texts_plain before.files name query _) why))
  says status (run name query firings search workers calls false result also (read schema statement same_result schema_is statement_is ends) behind) =
      its (Run name query firings search workers calls false) (ended result) also
      (run_says before.files name query firings schema statement schema_is statement_is seen search calls _ (record { schema = name; query = query; plan = []; relations = schema.relations }) (outputs_of before) (outputs_of after) (take workers old) (take workers new) result ends)
  says status (batch name queries firings search workers calls result also ends behind) =
      its (Batch name queries firings search workers calls) (ended result) also
      (batch_says seen name queries firings search calls before after (take workers old) (take workers new) result ends)
  says status (exec name plan workers calls result also ends behind) = its (Exec name plan workers calls) (ended result) also tt
  says status (check name query plan firings result also ends same) = its (Check name query plan firings) (ended result) also (checked_says name query plan firings before after result ends)
  says status (verify name result also ends) = its (Verify name) (ended result) also tt
  says status (crawl name workers calls result also ends behind) =
      its (Crawl name workers calls) (ended result) also (crawl_says seen name calls before after (take workers old) (take workers new) result ends)
  says status (reach name query workers calls result also ends behind) =
      its (Reach name query workers calls) (ended result) also (reach_says seen name calls before after (take workers old) (take workers new) query result ends)
  says status (world size workers result also ends behind) = its (World size workers) (ended result) also tt

pub whole : {S : Type 0} (seen : S → Seen) → ((words : List (List ℕ)) (command other : Command) → IsCommand words command → IsCommand words other → command ≡ other) → (words : List (List ℕ)) (command : Command) (before after : Moment) (old new : List (Lane S)) (status : Status) →
    Runs seen words before after old new status → IsCommand words command → SaysOf command before.files status
whole seen one words command before after old new status runs is = says seen words command before after old new (one words command) is status runs
