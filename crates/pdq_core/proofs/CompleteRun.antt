-- The command `run` is answered.
use Rattle.std.proofs.Common.{◌≡◌, ◌∙◌, ◌++◌, ℕ, Bool, true, false, List, [], Option, Result, Err, refl, sym, subst, inl, inr, arith}
use Rattle.meaning.specs.declared.types.Statement.{Statement}
use Rattle.meaning.specs.declared.types.Plan.{Plan}
use Rattle.access_schema.specs.declared.schema.Schema.{Schema}
use Rattle.findings.specs.declared.decision.Chosen.{Chosen}
use Rattle.explain.specs.Printing.{planned_text}
use Rattle.source_trait.specs.Asking.{Seen}
use Rattle.source_trait.specs.declared.lanes.Lane.{Lane}
use Rattle.middleware.specs.declared.fault.Run.{Run}
use Rattle.command_io.specs.declared.stop.Stop.{Stop}
use Rattle.command_io.specs.declared.outcome.Outcome.{Outcome}
use Rattle.command_io.specs.Status.{status_of}
use Rattle.command_io.specs.Moments.{Moment, outputs_of}
use Rattle.command_io.specs.Writing.{TookAll}
use Rattle.command_io.specs.FaultLines.{Names, fault_line}
use Rattle.source_trait.specs.Causes.{Rose}
use Rattle.command_io.specs.Executing.{Delivers}
use Rattle.command_io.specs.Telling.{TookLine, StopsFor}
use Rattle.command_io.proofs.Later.{rose_between}
use Rattle.command_io.proofs.SinkTakes.{goes_on}
use Rattle.run_command.specs.Deciding.{IsPlanned}
use Rattle.run_command.specs.Ends.{carries_out, IsResult, StatementEnds, RunEnds}
use Rattle.run_command.specs.Ends.StatementEnds.{no_decision, untold, refuted, undecided as spent, stopped, done as executed}
use Rattle.run_command.specs.Ends.RunEnds.{refused, read}
use Rattle.pdq_core.specs.Runs.{ended}
use Rattle.pdq_core.specs.Complete.{IsAnswered, NoneRose, SchemaIsGiven, QueryIsGiven, CanCarryOut, ErrBegins, IsPrinted}
use Rattle.pdq_core.specs.Complete.IsAnswered.{done, no, undecided, no_memory}
use Rattle.pdq_core.proofs.CompleteTexts.{same_schema, same_statement, texts_stop, decision_stop, stop_answered}
use Rattle.pdq_core.proofs.CompleteExecution.{delivery_stop}
use Rattle.pdq_core.proofs.CompleteVerified.{verified_answered}

-- what was printed stands before the line of what then stopped the command
pub printed : (text : List ℕ) (before after : Moment) (middle : Option (List ℕ)) (rose : Type 0) (line : List ℕ) → (rose → ⊥) →
    TookAll before.err middle text → TookLine middle after.err rose line → ErrBegins text before after
printed text before after middle rose line calm first (inl whole) =
    (line, goes_on before.err middle after.err text line (text ++ line) refl first whole)
printed text before after middle rose line calm first (inr (h, part)) = absurd (calm h)

-- a delivery of what was carried out is answered, where the output does not fail
delivery_answered : {S : Type 0} (seen : S → Seen) (schema : Schema) (calls : ℕ) (verify : Bool) (old new : List (Lane S)) (plan : Plan) → CanCarryOut seen schema calls verify old new plan →
    (IsText : Run → List ℕ → Type 0) (out_old out_new : Option (List ℕ)) (rose : Type 0) → (rose → ⊥) → (why : Stop) →
    Delivers (carries_out seen schema calls verify old new plan) IsText out_old out_new rose (Err why) → IsAnswered (status_of why)
delivery_answered seen schema calls false old new plan can IsText out_old out_new rose calm why delivery =
    subst (λ (s : Stop). IsAnswered (status_of s)) (sym (delivery_stop seen schema plan calls old new can IsText out_old out_new rose calm why delivery)) no_memory
delivery_answered seen schema calls true old new plan can IsText out_old out_new rose calm why delivery =
    verified_answered seen schema plan calls old new can IsText out_old out_new rose calm why delivery

module _ {S : Type 0} (schema : Schema) (statement : Statement) (names : Names) (before after : Moment) (old new : List (Lane S)) (calm : NoneRose before after) (firings search : ℕ)
    (Ran : Plan → Result Run Stop → Type 0) (IsText : Plan → Run → List ℕ → Type 0)
    (answers : (plan : Plan) (entries : List Chosen) (why : Stop) → IsPlanned schema statement firings search plan entries → IsPrinted entries plan before after →
    Delivers (Ran plan) (IsText plan) before.out after.out (Rose before.out_faults after.out_faults) (Err why) → IsAnswered (status_of why)) where
  stopped_answered : (plan : Plan) (entries : List Chosen) (middle : Option (List ℕ)) (rose : Type 0) (given end : Stop) → (rose → ⊥) → TookAll before.err middle (planned_text entries plan) →
      Delivers (Ran plan) (IsText plan) before.out after.out (Rose before.out_faults after.out_faults) (Err given) → IsPlanned schema statement firings search plan entries →
      StopsFor (λ its. its ≡ given) names middle after.err rose end → IsAnswered (status_of end)
  stopped_answered plan entries middle rose given end none took delivery planned told = elim told.tells [
    | inl stays ↦ subst (λ (s : Stop). IsAnswered (status_of s)) (sym (stays.0 ∙ told.cause))
        (answers plan entries given planned
        (printed (planned_text entries plan) before after middle rose (fault_line names told.given) none took stays.1) delivery)
    | inr wanted ↦ subst (λ (s : Stop). IsAnswered (status_of s)) (sym wanted.0) no_memory
  ]

  ends_answered : (result : Result Outcome Stop) → StatementEnds schema statement firings search Ran IsText names (outputs_of before) (outputs_of after) old new result → IsAnswered (ended result)
  ends_answered result (no_decision end why quiet same) = stop_answered end (λ given e. e) why
  ends_answered result (untold decision middle count end is took why quiet same) =
      stop_answered end (decision_stop _ (λ h. calm.err (rose_between before.err_faults before.err_faults count.faults after.err_faults (omega arith) count.ended h))) why
  ends_answered result (refuted text is took quiet same) = no
  ends_answered result (spent select log is took quiet same) = undecided
  ends_answered result (stopped plan entries middle count why end planned took delivery told) =
      stopped_answered plan entries middle _ why end (λ h. calm.err (rose_between before.err_faults count.faults after.err_faults after.err_faults count.begun (omega arith) h)) took
      delivery planned told
  ends_answered result (executed plan entries planned took delivery) = done

pub statement_answered : {S : Type 0} (seen : S → Seen) (schema : Schema) (statement : Statement) (names : Names) (before after : Moment) (old new : List (Lane S)) → NoneRose before after →
    (firings search calls : ℕ) (verify : Bool) (IsText : Plan → Run → List ℕ → Type 0) →
    ((plan : Plan) (entries : List Chosen) → IsPlanned schema statement firings search plan entries → IsPrinted entries plan before after → CanCarryOut seen schema calls verify old new plan) →
    (result : Result Outcome Stop) →
    StatementEnds schema statement firings search (carries_out seen schema calls verify old new) IsText names (outputs_of before) (outputs_of after) old new result → IsAnswered (ended result)
statement_answered seen schema statement names before after old new calm firings search calls verify IsText can result ends =
    ends_answered schema statement names before after old new calm firings search (carries_out seen schema calls verify old new) IsText
    (λ plan entries why planned is_printed delivery. delivery_answered seen schema calls verify old new plan (can plan entries planned is_printed) (IsText plan)
    before.out after.out (Rose before.out_faults after.out_faults) calm.out why delivery)
    result ends

pub run_answered : {S : Type 0} (seen : S → Seen) (name query : List ℕ) (firings search calls : ℕ) (verify : Bool) (before after : Moment) (old new : List (Lane S)) (result : Result Outcome Stop) → NoneRose before after →
    (schema : Schema) (statement : Statement) → SchemaIsGiven before.files name schema → QueryIsGiven before.files query schema statement →
    ((plan : Plan) (entries : List Chosen) → IsPlanned schema statement firings search plan entries → IsPrinted entries plan before after → CanCarryOut seen schema calls verify old new plan) →
    RunEnds seen name query (record { limits = record { firings = firings; search = search; calls = calls }; verify = verify }) before after old new result → IsAnswered (ended result)
run_answered seen name query firings search calls verify before after old new result calm schema statement given query_given can (refused end why quiet same) =
    stop_answered end (texts_stop before.files name query _ calm.files schema statement given query_given) why
run_answered {S = S} seen name query firings search calls verify before after old new result calm schema statement given query_given can (read other its same_result is are ends) =
    let schemas = same_schema before.files name schema other given is in
    let query_is : QueryIsGiven before.files query other statement = subst (λ (s : Schema). QueryIsGiven before.files query s statement) schemas query_given in
    let statements = same_statement before.files query other statement its query_is are in
    let names : Names = record { schema = name; query = query; plan = []; relations = other.relations } in
    let able : (plan : Plan) (entries : List Chosen) → IsPlanned other its firings search plan entries → IsPrinted entries plan before after → CanCarryOut seen other calls verify old new plan =
    subst (λ (t : Statement). (plan : Plan) (entries : List Chosen) → IsPlanned other t firings search plan entries → IsPrinted entries plan before after → CanCarryOut seen other calls verify old new plan) statements
    (subst (λ (s : Schema). (plan : Plan) (entries : List Chosen) → IsPlanned s statement firings search plan entries → IsPrinted entries plan before after → CanCarryOut seen s calls verify old new plan) schemas can) in
    statement_answered seen other its names before after old new calm firings search calls verify (IsResult seen other its new) able result ends
