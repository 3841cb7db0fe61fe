-- How the command `check` ends, and what is so of each way.
use Rattle.std.specs.Prelude.{◌≡◌, ℕ, List, [], Result, Ok, Err}
use Rattle.meaning.specs.declared.types.Statement.{Statement}
use Rattle.meaning.specs.declared.types.Plan.{Plan}
use Rattle.access_schema.specs.declared.schema.Schema.{Schema}
use Rattle.source_trait.specs.Causes.{Rose}
use Rattle.findings.specs.declared.verdict.Verdict.{Verdict}
use Rattle.findings.specs.declared.verdict.Verdict.TheVariants as verdict
use Rattle.plan_check.specs.Verdicts.{IsVerdict}
use Rattle.explain.specs.Verdicts.{IsVerdictText}
use Rattle.command_io.specs.declared.stop.Stop.{Stop}
use Rattle.command_io.specs.declared.stop.Stop.TheVariants as stop
use Rattle.command_io.specs.declared.outcome.Outcome.{Outcome}
use Rattle.command_io.specs.declared.outcome.Outcome.TheVariants as outcome
use Rattle.command_io.specs.Inputs.{SchemaIsRead, QueryIsRead, PlanIsRead, TextsStop, PlanStop}
use Rattle.command_io.specs.Moments.{Moment, Outputs, outputs_of, ResultStop}
use Rattle.command_io.specs.Writing.{TookAll, TookPart}
use Rattle.command_io.specs.FaultLines.{Names}
use Rattle.command_io.specs.Telling.{StopsFor}

-- The outcome of a verdict: done where the plan is equivalent on instances of integers, and no where it is illegal, or
-- loses a row or adds one on such an instance.
abbrev pub outcome_of : Verdict → Outcome
outcome_of verdict.Equivalent = outcome.Done
outcome_of (verdict.Illegal fault) = outcome.No
outcome_of (verdict.Loses facts row) = outcome.No
outcome_of (verdict.Adds facts row) = outcome.No
outcome_of (verdict.Undecided tried log) = outcome.Undecided

-- What became of a plan: nothing was found of it; or standard output took the text of a verdict that is right, whole or not.
pub data JudgeEnds (schema : Schema) (statement : Statement) (plan : Plan) (firings : ℕ) (names : Names) (before after : Outputs) : Result Outcome Stop → Type 0 where
  -- memory was wanted for the verdict or its text, and nothing but the line was written
  no_verdict : (end : Stop) →
      StopsFor (λ given. given ≡ stop.Memory) names before.err after.err (Rose before.err_faults after.err_faults) end →
      after.out ≡ before.out → JudgeEnds schema statement plan firings names before after (Err end)
  -- the verdict was not written whole
  cut : (found : Verdict) (text : List ℕ) (end : Stop) → IsVerdict schema statement plan firings found → IsVerdictText schema found text → TookPart before.out after.out text →
      StopsFor (ResultStop (Rose before.out_faults after.out_faults)) names before.err after.err (Rose before.err_faults after.err_faults) end →
      JudgeEnds schema statement plan firings names before after (Err end)
  -- it was written whole, and nothing was written on standard error
  judged : (found : Verdict) (text : List ℕ) → IsVerdict schema statement plan firings found → IsVerdictText schema found text → TookAll before.out after.out text →
      after.err ≡ before.err → JudgeEnds schema statement plan firings names before after (Ok (outcome_of found))

-- How `check` ends: the text of the schema, then that of the statement, or then that of the plan was refused, and nothing but the line was
-- written; or the three were read, and the plan was judged. Nothing is attached or asked, since the command has no sources.
pub data CheckEnds (schema_name query_name plan_name : List ℕ) (firings : ℕ) (before after : Moment) : Result Outcome Stop → Type 0 where
  refused : (end : Stop) →
      StopsFor (TextsStop before.files schema_name query_name (Rose before.file_faults after.file_faults))
      (record { schema = schema_name; query = query_name; plan = plan_name; relations = [] }) before.err after.err (Rose before.err_faults after.err_faults) end →
      after.out ≡ before.out → CheckEnds schema_name query_name plan_name firings before after (Err end)
  no_plan : (schema : Schema) (statement : Statement) (end : Stop) → SchemaIsRead before.files schema_name schema → QueryIsRead before.files query_name schema statement →
      StopsFor (PlanStop before.files plan_name (Rose before.file_faults after.file_faults))
      (record { schema = schema_name; query = query_name; plan = plan_name; relations = [] }) before.err after.err (Rose before.err_faults after.err_faults) end →
      after.out ≡ before.out → CheckEnds schema_name query_name plan_name firings before after (Err end)
  read : (schema : Schema) (statement : Statement) (plan : Plan) (result : Result Outcome Stop) →
      SchemaIsRead before.files schema_name schema → QueryIsRead before.files query_name schema statement → PlanIsRead before.files plan_name plan →
      JudgeEnds schema statement plan firings (record { schema = schema_name; query = query_name; plan = plan_name; relations = schema.relations }) (outputs_of before) (outputs_of after) result →
      CheckEnds schema_name query_name plan_name firings before after result
