-- How the command `run` ends, and what is so of each way.
use Rattle.std.specs.Prelude.{◌≡◌, ◌≤◌, ℕ, List, [], Contains, Option, Result, Ok, Err, Bool, true, false}
use Rattle.meaning.specs.declared.types.Fact.{Fact}
use Rattle.meaning.specs.declared.types.Statement.{Statement}
use Rattle.meaning.specs.declared.types.Plan.{Plan}
use Rattle.meaning.specs.declared.types.Firing.{Firing}
use Rattle.meaning.specs.Rows.{IsRow}
use Rattle.meaning.specs.Answers.{Answers}
use Rattle.meaning.specs.Claims.{IsModel}
use Rattle.access_schema.specs.declared.schema.Schema.{Schema}
use Rattle.access_schema.specs.Meaning.{meaning_of}
use Rattle.sql_select.specs.Statements.{result_names}
use Rattle.source_trait.specs.Asking.{Seen}
use Rattle.source_trait.specs.Causes.{Rose}
use Rattle.source_trait.specs.declared.lanes.Lane.{Lane}
use Rattle.row_text.specs.RowText.{IsRowText}
use Rattle.middleware.specs.declared.fault.Run.{Run}
use Rattle.middleware.specs.LaneBranches.{LanesHoldPlan}
use Rattle.command_io.specs.declared.stop.Stop.{Stop}
use Rattle.command_io.specs.declared.stop.Stop.TheVariants as stop
use Rattle.command_io.specs.declared.outcome.Outcome.{Outcome}
use Rattle.command_io.specs.declared.outcome.Outcome.TheVariants as outcome
use Rattle.command_io.specs.Inputs.{SchemaIsRead, QueryIsRead, TextsStop}
use Rattle.command_io.specs.Moments.{Moment, Outputs, outputs_of, Between, DecisionStop}
use Rattle.command_io.specs.Writing.{TookAll}
use Rattle.command_io.specs.FaultLines.{Names}
use Rattle.command_io.specs.Telling.{StopsFor}
use Rattle.command_io.specs.Executing.{ExecutesOrStops, Delivers}
use Rattle.command_io.specs.Verified.{VerifiesOrStops}
use Rattle.rule_pass.specs.declared.pass.TheConstants.{MOST_FIRINGS}
use Rattle.proof_search.specs.declared.deciding.TheConstants.{MOST_UNITS}
use Rattle.findings.specs.declared.decision.Chosen.{Chosen}
use Rattle.findings.specs.declared.decision.Decision.{Decision}
use Rattle.explain.specs.Printing.{IsDecisionText, planned_text, undecided_text}
use Rattle.proof_search.specs.Decisions.{IsUndecided}
use Rattle.run_command.specs.Deciding.{IsPlanned, IsDecided, IsRefuted, TookPartOf}
use Rattle.run_command.specs.declared.settings.Limits.{Limits}
use Rattle.run_command.specs.declared.settings.Settings.{Settings}

-- No number is above the greatest that is allowed.
pub record AreWithin (limits : Limits) : Type 0 where
  pub firings : limits.firings ≤ MOST_FIRINGS
  pub search : limits.search ≤ MOST_UNITS
  pub calls : limits.calls ≤ 1000000

-- How a plan is carried out with so many requests: where the rules are to be tested, that comes first.
abbrev pub carries_out : {S : Type 0} → (S → Seen) → Schema → ℕ → Bool → List (Lane S) → List (Lane S) → Plan → Result Run Stop → Type 0
carries_out seen schema calls false old new plan = ExecutesOrStops seen schema plan calls old new
carries_out seen schema calls true old new plan = VerifiesOrStops seen schema plan calls old new

-- The text is that of the rows that the execution gave. They are the plan's on whatever instance the sources of each lane hold, and so
-- the statement's answers where the instance meets the rules.
pub record IsResult {S : Type 0} (seen : S → Seen) (schema : Schema) (statement : Statement) (lanes : List (Lane S)) (plan : Plan) (run : Run) (text : List ℕ) : Type 0 where
  pub given : IsRowText (result_names statement.selects) (Contains run.rows) text
  pub rows : (instance : List Fact) → LanesHoldPlan seen schema plan lanes instance →
      IsRowText (result_names statement.selects) (IsRow (meaning_of schema) plan instance) text
  pub answers : (instance : List Fact) → LanesHoldPlan seen schema plan lanes instance → IsModel (meaning_of schema) instance →
      IsRowText (result_names statement.selects) (Answers statement instance) text

-- What became of a statement: nothing was decided; or standard error took the text of a decision, whole or not; and where that was a
-- plan and was taken whole, the plan was carried out, as `Ran` says, and standard output took the text of the result, whole or not. `IsText`
-- says which text that is.
pub data StatementEnds {S : Type 0} (schema : Schema) (statement : Statement) (firings search : ℕ)
    (Ran : Plan → Result Run Stop → Type 0) (IsText : Plan → Run → List ℕ → Type 0) (names : Names) (before after : Outputs) (old new : List (Lane S)) : Result Outcome Stop → Type 0 where
  -- memory was wanted for a decision, and nothing but the line was written
  no_decision : (end : Stop) →
      StopsFor (λ given. given ≡ stop.Memory) names before.err after.err (Rose before.err_faults after.err_faults) end →
      after.out ≡ before.out → new ≡ old → StatementEnds schema statement firings search Ran IsText names
      before after old new (Err end)
  -- the decision was not written whole, and nothing else was touched; the line of that may be missing only where its writing failed too
  untold : (decision : Decision) (middle : Option (List ℕ)) (count : Between before.err_faults after.err_faults) (end : Stop) →
      IsDecided schema statement firings search decision → TookPartOf before.err middle (IsDecisionText schema decision) →
      StopsFor (DecisionStop (Rose before.err_faults count.faults)) names middle after.err (Rose count.faults after.err_faults) end →
      after.out ≡ before.out → new ≡ old → StatementEnds schema statement firings search Ran IsText names
      before after old new (Err end)
  -- there is no plan: the refutation was written whole, and nothing else was touched
  refuted : (text : List ℕ) → IsRefuted schema statement firings text → TookAll before.err after.err text →
      after.out ≡ before.out → new ≡ old → StatementEnds schema statement firings search Ran IsText names
      before after old new (Ok outcome.No)
  -- the firings were spent: their log was written whole, and nothing else was touched
  undecided : (select : ℕ) (log : List Firing) → IsUndecided schema statement firings select log →
      TookAll before.err after.err (undecided_text schema select log) →
      after.out ≡ before.out → new ≡ old → StatementEnds schema statement firings search Ran IsText names
      before after old new (Ok outcome.Undecided)
  -- the plan was written whole, and its execution stopped, or the text of the result was not written whole
  stopped : (plan : Plan) (entries : List Chosen) (middle : Option (List ℕ)) (count : Between before.err_faults after.err_faults) (why end : Stop) →
      IsPlanned schema statement firings search plan entries → TookAll before.err middle (planned_text entries plan) →
      Delivers (Ran plan) (IsText plan) before.out after.out (Rose before.out_faults after.out_faults) (Err why) →
      StopsFor (λ given. given ≡ why) names middle after.err (Rose count.faults after.err_faults) end →
      StatementEnds schema statement firings search Ran IsText names before after old new (Err end)
  -- it was executed, and the result was written whole
  done : (plan : Plan) (entries : List Chosen) → IsPlanned schema statement firings search plan entries → TookAll before.err after.err (planned_text entries plan) →
      Delivers (Ran plan) (IsText plan) before.out after.out (Rose before.out_faults after.out_faults) (Ok tt) →
      StatementEnds schema statement firings search Ran IsText names before after old new (Ok outcome.Done)

-- How `run` ends: a text was refused, and nothing but the line was written; or both were read, and the statement was decided.
pub data RunEnds {S : Type 0} (seen : S → Seen) (schema_name query_name : List ℕ) (settings : Settings)
    (before after : Moment) (old new : List (Lane S)) :
    Result Outcome Stop → Type 0 where
  refused : (end : Stop) →
      StopsFor (TextsStop before.files schema_name query_name (Rose before.file_faults after.file_faults))
      (record { schema = schema_name; query = query_name; plan = []; relations = [] }) before.err after.err (Rose before.err_faults after.err_faults) end →
      after.out ≡ before.out → new ≡ old → RunEnds seen schema_name query_name settings before after old new (Err end)
  read : (schema : Schema) (statement : Statement) (result : Result Outcome Stop) →
      SchemaIsRead before.files schema_name schema → QueryIsRead before.files query_name schema statement →
      StatementEnds schema statement settings.limits.firings settings.limits.search
      (carries_out seen schema settings.limits.calls settings.verify old new)
      (IsResult seen schema statement new)
      (record { schema = schema_name; query = query_name; plan = []; relations = schema.relations })
      (outputs_of before) (outputs_of after) old new result →
      RunEnds seen schema_name query_name settings before after old new result
