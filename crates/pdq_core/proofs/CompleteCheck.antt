-- The command `check` is answered.
use Rattle.std.proofs.Common.{ℕ, List, Result}
use Rattle.meaning.specs.declared.types.Plan.{Plan}
use Rattle.meaning.specs.declared.types.Statement.{Statement}
use Rattle.access_schema.specs.declared.schema.Schema.{Schema}
use Rattle.findings.specs.declared.verdict.Verdict.{Verdict}
use Rattle.findings.specs.declared.verdict.Verdict.TheVariants as verdict
use Rattle.command_io.specs.declared.stop.Stop.{Stop}
use Rattle.command_io.specs.declared.outcome.Outcome.{Outcome}
use Rattle.command_io.specs.Moments.{Moment, outputs_of}
use Rattle.command_io.specs.FaultLines.{Names}
use Rattle.check_command.specs.Ends.{outcome_of, JudgeEnds, CheckEnds}
use Rattle.check_command.specs.Ends.JudgeEnds.{no_verdict, cut, judged}
use Rattle.check_command.specs.Ends.CheckEnds.{refused, no_plan, read}
use Rattle.pdq_core.specs.Runs.{ended}
use Rattle.std.specs.Prelude.{Ok}
use Rattle.pdq_core.specs.Complete.{IsAnswered, NoneRose, SchemaIsGiven, QueryIsGiven, PlanIsGiven}
use Rattle.pdq_core.specs.Complete.IsAnswered.{done, no, undecided}
use Rattle.pdq_core.proofs.CompleteTexts.{texts_stop, plan_stop, result_stop, stop_answered}

verdict_answered : (found : Verdict) → IsAnswered (ended (Ok (outcome_of found)))
verdict_answered verdict.Equivalent = done
verdict_answered (verdict.Illegal fault) = no
verdict_answered (verdict.Loses facts row) = no
verdict_answered (verdict.Adds facts row) = no
verdict_answered (verdict.Undecided tried log) = undecided

judge_answered : (schema : Schema) (statement : Statement) (plan : Plan) (firings : ℕ) (names : Names) (before after : Moment) (result : Result Outcome Stop) → NoneRose before after →
    JudgeEnds schema statement plan firings names (outputs_of before) (outputs_of after) result → IsAnswered (ended result)
judge_answered schema statement plan firings names before after result calm (no_verdict end why quiet) = stop_answered end (λ given e. e) why
judge_answered schema statement plan firings names before after result calm (cut found text end is shows part why) = stop_answered end (result_stop _ calm.out) why
judge_answered schema statement plan firings names before after result calm (judged found text is shows all quiet) = verdict_answered found

pub check_answered : (name query its : List ℕ) (firings : ℕ) (before after : Moment) (result : Result Outcome Stop) → NoneRose before after →
    (schema : Schema) (statement : Statement) (plan : Plan) → SchemaIsGiven before.files name schema → QueryIsGiven before.files query schema statement → PlanIsGiven before.files its plan →
    CheckEnds name query its firings before after result → IsAnswered (ended result)
check_answered name query its firings before after result calm schema statement plan given query_given plan_given (refused end why quiet) =
    stop_answered end (texts_stop before.files name query _ calm.files schema statement given query_given) why
check_answered name query its firings before after result calm schema statement plan given query_given plan_given (no_plan other another end is are why quiet) =
    stop_answered end (plan_stop before.files its _ calm.files plan plan_given) why
check_answered name query its firings before after result calm schema statement plan given query_given plan_given (read other another third same_result is are said ends) =
    judge_answered other another third firings (record { schema = name; query = query; plan = its; relations = other.relations }) before after result calm ends
