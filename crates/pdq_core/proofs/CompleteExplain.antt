-- The command `explain` is answered.
use Rattle.std.proofs.Common.{ℕ, List, [], Result}
use Rattle.meaning.specs.declared.types.Statement.{Statement}
use Rattle.access_schema.specs.declared.schema.Schema.{Schema}
use Rattle.command_io.specs.declared.stop.Stop.{Stop}
use Rattle.command_io.specs.declared.outcome.Outcome.{Outcome}
use Rattle.command_io.specs.declared.outcome.Outcome.TheVariants as outcome
use Rattle.command_io.specs.Moments.{Moment, outputs_of}
use Rattle.command_io.specs.FaultLines.{Names}
use Rattle.run_command.specs.Explained.{DecisionEnds, ExplainEnds}
use Rattle.run_command.specs.Explained.DecisionEnds.{no_decision, cut, shown}
use Rattle.run_command.specs.Explained.ExplainEnds.{refused, read}
use Rattle.pdq_core.specs.Runs.{ended}
use Rattle.pdq_core.specs.Complete.{IsAnswered, NoneRose, SchemaIsGiven, QueryIsGiven}
use Rattle.pdq_core.specs.Complete.IsAnswered.{done, no, undecided}
use Rattle.pdq_core.proofs.CompleteTexts.{texts_stop, result_stop, stop_answered}

decision_answered : (schema : Schema) (statement : Statement) (firings search : ℕ) (names : Names) (before after : Moment) (result : Result Outcome Stop) → NoneRose before after →
    DecisionEnds schema statement firings search names (outputs_of before) (outputs_of after) result → IsAnswered (ended result)
decision_answered schema statement firings search names before after result calm (no_decision end why quiet) = stop_answered end (λ given e. e) why
decision_answered schema statement firings search names before after result calm (cut decision end is took why) = stop_answered end (result_stop _ calm.out) why
decision_answered schema statement firings search names before after result calm (shown text outcome.Done shows took quiet) = done
decision_answered schema statement firings search names before after result calm (shown text outcome.No shows took quiet) = no
decision_answered schema statement firings search names before after result calm (shown text outcome.Undecided shows took quiet) = undecided

pub explain_answered : (name query : List ℕ) (firings search : ℕ) (before after : Moment) (result : Result Outcome Stop) → NoneRose before after →
    (schema : Schema) (statement : Statement) → SchemaIsGiven before.files name schema → QueryIsGiven before.files query schema statement →
    ExplainEnds name query firings search before after result → IsAnswered (ended result)
explain_answered name query firings search before after result calm schema statement given query_given (refused end why quiet) =
    stop_answered end (texts_stop before.files name query _ calm.files schema statement given query_given) why
explain_answered name query firings search before after result calm schema statement given query_given (read other its same_result is are ends) =
    decision_answered other its firings search (record { schema = name; query = query; plan = []; relations = other.relations }) before after result calm ends
