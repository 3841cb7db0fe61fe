-- The status of `batch` says what was decided of the statements.
use Rattle.std.proofs.Common.{◌+◌, ℕ, List, [], ◌∷◌, length, Option, Result, sym, subst, inl, inr}
use Rattle.std.specs.List.{AllZip}
use Rattle.lists.proofs.Members.{contains_cases, contains_none}
use Rattle.meaning.specs.declared.types.Plan.{Plan}
use Rattle.meaning.specs.declared.types.Statement.{Statement}
use Rattle.access_schema.specs.declared.schema.Schema.{Schema}
use Rattle.proof_search.specs.Plans.{HasNoPlan}
use Rattle.source_trait.specs.Asking.{Seen}
use Rattle.source_trait.specs.declared.lanes.Lane.{Lane}
use Rattle.middleware.specs.declared.fault.Run.{Run}
use Rattle.command_io.specs.declared.stop.Stop.{Stop}
use Rattle.command_io.specs.declared.outcome.Outcome.{Outcome}
use Rattle.command_io.specs.Status.{status_of}
use Rattle.command_io.specs.Inputs.{Contents, SchemaIsRead, BatchIsRead}
use Rattle.command_io.specs.Moments.{Moment, Outputs}
use Rattle.command_io.specs.FaultLines.{Names}
use Rattle.run_command.specs.Deciding.{IsPlanned}
use Rattle.batch_command.specs.Deciding.{Told, EndsAt, Halts}
use Rattle.batch_command.specs.Deciding.EndsAt.{no_decision, untold, refuted, undecided}
use Rattle.batch_command.specs.Ends.{ExecutesOrStops, StatementsEnd, BatchEnds}
use Rattle.batch_command.specs.Ends.StatementsEnd.{halted, stopped, done}
use Rattle.batch_command.specs.Ends.BatchEnds.{refused, read}
use Rattle.pdq_core.specs.Runs.{ended}
use Rattle.pdq_core.specs.Statuses.{HasPlan, HavePlans, ComesTo, RunsOn, ReadAll, SaysOfBatch}
use Rattle.pdq_core.proofs.Decided.{longer, has_plan}
use Rattle.pdq_core.proofs.Refusals.{IsPlain, plain_says, memory_plain, decision_plain, batch_texts_plain}
use Rattle.pdq_core.proofs.Refusals.{batched_plain, plain_end}

-- statements that were planned have plans
have_plans : (schema : Schema) (firings search : ℕ) (statements : List Statement) (told : List Told) →
    AllZip (λ statement (its : Told). IsPlanned schema statement firings search its.plan its.entries) statements told →
    HavePlans schema statements
have_plans schema firings search [] [] all = λ statement c. absurd (contains_none statement c)
have_plans schema firings search [] (its ∷ told) all = absurd all
have_plans schema firings search (s ∷ statements) [] all = absurd all
have_plans schema firings search (s ∷ statements) (its ∷ told) all = λ statement c. elim (contains_cases s statements statement c) [
  | inl here ↦ subst (λ (t : Statement). HasPlan schema t) here (has_plan schema s firings search its.plan its.entries all.0)
  | inr there ↦ have_plans schema firings search statements told all.1 statement there
]

module _ (told : Option Contents) (name queries : List ℕ) (firings : ℕ) where
  -- the status of a plain stop says nothing of the statements
  stop_says : (end : Stop) → IsPlain end → SaysOfBatch (status_of end) told name queries firings
  stop_says = plain_says (λ status. SaysOfBatch status told name queries firings) tt tt tt tt tt tt

  module _ (schema : Schema) (statements : List Statement) (is : SchemaIsRead told name schema)
      (are : BatchIsRead told queries schema statements) (search : ℕ) (names : Names) where
    read_all : (P : Schema → List Statement → Type 0) → P schema statements → ReadAll told name queries P
    read_all P so = record { schema = schema; statements = statements; schema_is = is; statements_are = are; so = so }

    halted_says : (start after : Option (List ℕ)) (start_faults after_faults : ℕ) (result : Result Outcome Stop) →
        Halts schema firings search statements names start after start_faults after_faults result →
        SaysOfBatch (ended result) told name queries firings
    halted_says start after start_faults after_faults result halts = go result halts.at_it
      where
        comes_to : (P : Schema → Statement → Type 0) → P schema halts.statement → ComesTo P schema statements
        comes_to P so = record {
          front = halts.front;
          statement = halts.statement;
          rest = halts.rest;
          all = halts.all;
          before = have_plans schema firings search halts.front halts.told halts.before_it.planned;
          so = so;
        }

        go : (result : Result Outcome Stop) →
            EndsAt schema firings search (length halts.front + 1) halts.statement names halts.middle after halts.count.faults after_faults
            result →
            SaysOfBatch (ended result) told name queries firings
        go result (no_decision end why) = stop_says end (plain_end end memory_plain why)
        go result (untold decision middle count end decided took why) = stop_says end (plain_end end (decision_plain _) why)
        go result (refuted text refutes took) = read_all (ComesTo HasNoPlan) (comes_to HasNoPlan refutes.refutes.none)
        go result (undecided select log spent took) =
            read_all (ComesTo (RunsOn firings)) (comes_to (RunsOn firings) (longer schema halts.statement firings select log spent))

    statements_say : {S : Type 0} (seen : S → Seen) (calls : ℕ) (IsText : List Plan → List Run → List ℕ → Type 0)
        (before after : Outputs) (old new : List (Lane S)) (result : Result Outcome Stop) →
        StatementsEnd schema statements firings search (ExecutesOrStops seen schema calls old new) IsText names before after old new
        result →
        SaysOfBatch (ended result) told name queries firings
    statements_say seen calls IsText before after old new result (halted same_result halts quiet same) =
        halted_says before.err after.err before.err_faults after.err_faults result halts
    statements_say seen calls IsText before after old new result (stopped its middle count why end are_told delivery line) =
        stop_says end
        (plain_end end (λ given e. subst IsPlain (sym e) (batched_plain seen schema _ calls old new _ _ _ _ why delivery)) line)
    statements_say seen calls IsText before after old new result (done its are_told delivery) =
        read_all HavePlans (have_plans schema firings search statements its are_told.planned)

pub batch_says : {S : Type 0} (seen : S → Seen) (name queries : List ℕ) (firings search calls : ℕ) (before after : Moment)
    (old new : List (Lane S)) (result : Result Outcome Stop) →
    BatchEnds seen name queries (record { firings = firings; search = search; calls = calls }) before after old new result →
    SaysOfBatch (ended result) before.files name queries firings
batch_says seen name queries firings search calls before after old new result (refused end why quiet same) =
    stop_says before.files name queries firings end (plain_end end (batch_texts_plain before.files name queries _) why)
batch_says seen name queries firings search calls before after old new result (read schema statements same_result is are ends) =
    statements_say before.files name queries firings schema statements is are search _ seen calls _ _ _ old new result ends
