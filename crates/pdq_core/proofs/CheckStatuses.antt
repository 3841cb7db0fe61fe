-- The status of `check` says whether the plan is right.
use Rattle.std.proofs.Common.{◌≡◌, ℕ, List, [], ◌∷◌, ◌++◌, subst, inl, inr, arith, Option, Result}
use Rattle.std.proofs.lemmas.List.{length_push}
use Rattle.std.specs.Prelude.{Ok}
use Rattle.lists.proofs.Members.{contains_got}
use Rattle.meaning.specs.declared.types.Plan.{Plan}
use Rattle.meaning.specs.declared.types.Query.{Query}
use Rattle.meaning.specs.declared.types.Rule.{Rule}
use Rattle.meaning.specs.declared.types.Statement.{Statement}
use Rattle.meaning.specs.declared.types.Trigger.{Trigger}
use Rattle.meaning.specs.Triggers.{State, fired}
use Rattle.meaning.specs.Runs.{IsBaseRun, IsFirstActive, opening_state}
use Rattle.access_schema.specs.declared.schema.Schema.{Schema}
use Rattle.access_schema.specs.Meaning.{meaning_of}
use Rattle.findings.specs.declared.verdict.Verdict.{Verdict}
use Rattle.findings.specs.declared.verdict.Side.TheVariants as side
use Rattle.plan_check.specs.Trials.{IsSpent}
use Rattle.plan_check.specs.Verdicts.{IsVerdict}
use Rattle.plan_check.specs.Verdicts.IsIllegalOver.{unlawful, other_width}
use Rattle.plan_check.specs.Verdicts.IsVerdict.{equivalent, illegal, loses, adds, undecided}
use Rattle.command_io.specs.declared.stop.Stop.{Stop}
use Rattle.command_io.specs.declared.outcome.Outcome.{Outcome}
use Rattle.command_io.specs.Status.{status_of}
use Rattle.command_io.specs.Inputs.{Contents, SchemaIsRead, QueryIsRead, PlanIsRead}
use Rattle.command_io.specs.Moments.{Moment, Outputs, outputs_of}
use Rattle.command_io.specs.FaultLines.{Names}
use Rattle.check_command.specs.Ends.{outcome_of, JudgeEnds, CheckEnds}
use Rattle.check_command.specs.Ends.JudgeEnds.{no_verdict, cut, judged}
use Rattle.check_command.specs.Ends.CheckEnds.{refused, no_plan, read}
use Rattle.pdq_core.specs.Runs.{ended}
use Rattle.pdq_core.specs.Statuses.{IsRight, IsWrong, IsTried, FiresOn, ReadWith, SaysOfPlan}
use Rattle.pdq_core.proofs.Refusals.{IsPlain, plain_says, memory_plain, result_plain, texts_plain, plan_plain, plain_end}

-- a base run goes on by an active trigger
run_push : (rules : List Rule) (state : State) (log : List Trigger) (end : State) (trigger : Trigger) (rule : Rule) → IsBaseRun rules state log end → IsFirstActive rules end trigger rule →
    IsBaseRun rules state (log ++ trigger ∷ []) (fired end trigger rule)
run_push rules state [] end trigger rule run first = (rule, subst (λ (s : State). IsFirstActive rules s trigger rule) run first, run_end)
  where
    run_end : fired end trigger rule ≡ fired state trigger rule
    run_end = λ i. fired (run i) trigger rule
run_push rules state (one ∷ log) end trigger rule (its, active, more) first = (its, active, run_push rules (fired state one its) log end trigger rule more first)

module _ (schema : Schema) (statement : Statement) (plan : Plan) (firings : ℕ) where
  -- the spent firings can be gone on with
  longer : (query : Query) (others : List (Option Query)) (log : List Trigger) → IsTried schema statement plan query → IsSpent (meaning_of schema) query others firings log → FiresOn firings schema statement plan
  longer query others log tried spent =
      let (trigger, (rule, first)) = spent.goes_on in
      let count = spent.count in
      let one_more = length_push log trigger in
      record {
        query = query;
        log = log ++ trigger ∷ [];
        end = fired spent.end trigger rule;
        tried = tried;
        run = run_push schema.rules (opening_state query) log spent.end trigger rule spent.run first;
        long = omega arith;
      }

  module _ (told : Option Contents) (name query its : List ℕ) (is : SchemaIsRead told name schema) (are : QueryIsRead told query schema statement) (said : PlanIsRead told its plan) where
    read_with : (P : Schema → Statement → Plan → Type 0) → P schema statement plan → ReadWith told name query its P
    read_with P so = record { schema = schema; statement = statement; plan = plan; schema_is = is; statement_is = are; plan_is = said; so = so }

    verdict_says : (found : Verdict) → IsVerdict schema statement plan firings found → SaysOfPlan (ended (Ok (outcome_of found))) told name query its firings
    verdict_says _ (equivalent legal same) = read_with IsRight (record { legal = legal; equivalent = same })
    verdict_says _ (illegal fault (unlawful not first)) = read_with IsWrong (λ right. not right.legal.lawful)
    verdict_says _ (illegal fault (other_width lawful not e)) = read_with IsWrong (λ right. not right.legal.wide)
    verdict_says _ (loses number facts row legal before lost) =
        read_with IsWrong (λ right. lost.no_row (right.equivalent.complete facts row lost.model (lost.select, contains_got statement.selects number lost.select lost.at, lost.answered)))
    verdict_says _ (adds number facts row legal none before added) =
        read_with IsWrong (λ right. added.not_answered (right.equivalent.sound facts row added.model (added.branch, contains_got plan.branches number added.branch added.at, added.a_row)))
    verdict_says _ (undecided (side.Select number) log legal none_lost none_added before spent) =
        read_with (FiresOn firings) (longer spent.query spent.queries log (inl (spent.select, contains_got statement.selects number spent.select spent.at, spent.form, spent.numbered)) spent.spent)
    verdict_says _ (undecided (side.Branch number) log legal none_lost none_added before spent) =
        read_with (FiresOn firings) (longer spent.query spent.queries log (inr (spent.branch, contains_got plan.branches number spent.branch spent.at, spent.form)) spent.spent)

module _ (told : Option Contents) (name query its : List ℕ) (firings : ℕ) where
  stop_says : (end : Stop) → IsPlain end → SaysOfPlan (status_of end) told name query its firings
  stop_says = plain_says (λ status. SaysOfPlan status told name query its firings) tt tt tt tt tt tt

  judged_says : (schema : Schema) (statement : Statement) (plan : Plan) → SchemaIsRead told name schema → QueryIsRead told query schema statement → PlanIsRead told its plan →
      (names : Names) (before after : Outputs) (result : Result Outcome Stop) → JudgeEnds schema statement plan firings names before after result → SaysOfPlan (ended result) told name query its firings
  judged_says schema statement plan is are said names before after result (no_verdict end why quiet) = stop_says end (plain_end end memory_plain why)
  judged_says schema statement plan is are said names before after result (cut found text end right shows part why) = stop_says end (plain_end end (result_plain _) why)
  judged_says schema statement plan is are said names before after result (judged found text right shows all quiet) =
      verdict_says schema statement plan firings told name query its is are said found right

pub checked_says : (name query its : List ℕ) (firings : ℕ) (before after : Moment) (result : Result Outcome Stop) → CheckEnds name query its firings before after result →
    SaysOfPlan (ended result) before.files name query its firings
checked_says name query its firings before after result (refused end why quiet) =
    stop_says before.files name query its firings end (plain_end end (texts_plain before.files name query _) why)
checked_says name query its firings before after result (no_plan schema statement end is are why quiet) =
    stop_says before.files name query its firings end (plain_end end (plan_plain before.files its _) why)
checked_says name query its firings before after result (read schema statement plan same is are said ends) =
    judged_says before.files name query its firings schema statement plan is are said (record { schema = name; query = query; plan = its; relations = schema.relations }) (outputs_of before) (outputs_of after) result ends
