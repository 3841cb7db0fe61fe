-- How the command `explain` ends, and what is so of each way.
use Rattle.std.specs.Prelude.{◌≡◌, ℕ, List, [], Result, Ok, Err}
use Rattle.meaning.specs.declared.types.Statement.{Statement}
use Rattle.access_schema.specs.declared.schema.Schema.{Schema}
use Rattle.source_trait.specs.Causes.{Rose}
use Rattle.command_io.specs.declared.stop.Stop.{Stop}
use Rattle.command_io.specs.declared.stop.Stop.TheVariants as stop
use Rattle.command_io.specs.declared.outcome.Outcome.{Outcome}
use Rattle.command_io.specs.Inputs.{SchemaIsRead, QueryIsRead, TextsStop}
use Rattle.command_io.specs.Moments.{Moment, Outputs, outputs_of, ResultStop}
use Rattle.command_io.specs.Writing.{TookAll}
use Rattle.command_io.specs.FaultLines.{Names}
use Rattle.command_io.specs.Telling.{StopsFor}
use Rattle.findings.specs.declared.decision.Decision.{Decision}
use Rattle.explain.specs.Printing.{IsDecisionText}
use Rattle.run_command.specs.Deciding.{IsDecided, Shows, TookPartOf}

-- What became of a statement: nothing was decided; or standard output took the text of the decision, whole or not.
pub data DecisionEnds (schema : Schema) (statement : Statement) (firings search : ℕ) (names : Names) (before after : Outputs) : Result Outcome Stop → Type 0 where
  -- memory was wanted for a decision, and nothing but the line was written
  no_decision : (end : Stop) →
      StopsFor (λ given. given ≡ stop.Memory) names before.err after.err (Rose before.err_faults after.err_faults) end →
      after.out ≡ before.out → DecisionEnds schema statement firings search names before after (Err end)
  -- the decision was not written whole
  cut : (decision : Decision) (end : Stop) → IsDecided schema statement firings search decision →
      TookPartOf before.out after.out (IsDecisionText schema decision) →
      StopsFor (ResultStop (Rose before.out_faults after.out_faults)) names before.err after.err (Rose before.err_faults after.err_faults) end →
      DecisionEnds schema statement firings search names before after (Err end)
  -- it was written whole, and the outcome is that of what it shows
  shown : (text : List ℕ) (outcome : Outcome) → Shows schema statement firings search text outcome → TookAll before.out after.out text →
      after.err ≡ before.err → DecisionEnds schema statement firings search names before after (Ok outcome)

-- How `explain` ends: a text was refused, and nothing but the line was written; or both were read, and the statement was decided.
-- Nothing is attached or asked, since the command has no sources.
pub data ExplainEnds (schema_name query_name : List ℕ) (firings search : ℕ) (before after : Moment) : Result Outcome Stop → Type 0 where
  refused : (end : Stop) →
      StopsFor (TextsStop before.files schema_name query_name (Rose before.file_faults after.file_faults))
      (record { schema = schema_name; query = query_name; plan = []; relations = [] }) before.err after.err (Rose before.err_faults after.err_faults) end →
      after.out ≡ before.out → ExplainEnds schema_name query_name firings search before after (Err end)
  read : (schema : Schema) (statement : Statement) (result : Result Outcome Stop) →
      SchemaIsRead before.files schema_name schema → QueryIsRead before.files query_name schema statement →
      DecisionEnds schema statement firings search (record { schema = schema_name; query = query_name; plan = []; relations = schema.relations }) (outputs_of before) (outputs_of after) result →
      ExplainEnds schema_name query_name firings search before after result
