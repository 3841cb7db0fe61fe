-- The command `exec` is answered.
use Rattle.std.proofs.Common.{◌≡◌, ◌∙◌, ℕ, List, [], Result, refl, subst}
use Rattle.meaning.specs.declared.types.Plan.{Plan}
use Rattle.access_schema.specs.declared.schema.Schema.{Schema}
use Rattle.source_trait.specs.Asking.{Seen}
use Rattle.source_trait.specs.declared.lanes.Lane.{Lane}
use Rattle.command_io.specs.declared.stop.Stop.{Stop}
use Rattle.command_io.specs.declared.stop.Stop.TheVariants as stop
use Rattle.command_io.specs.declared.outcome.Outcome.{Outcome}
use Rattle.command_io.specs.Moments.{Moment, outputs_of}
use Rattle.command_io.specs.FaultLines.{Names}
use Rattle.exec_command.specs.Ends.{MayRun, IdleStop, PlanEnds, ExecEnds}
use Rattle.exec_command.specs.Ends.IdleStop.{no_memory as idle_memory, illegal}
use Rattle.exec_command.specs.Ends.PlanEnds.{idle, stopped, done as executed}
use Rattle.exec_command.specs.Ends.ExecEnds.{no_schema, no_plan, read}
use Rattle.pdq_core.specs.Runs.{ended}
use Rattle.pdq_core.specs.Complete.{IsAnswered, NoneRose, SchemaIsGiven, PlanIsGiven, CanExecute}
use Rattle.pdq_core.specs.Complete.IsAnswered.{done}
use Rattle.pdq_core.proofs.CompleteTexts.{same_schema, same_plan, schema_stop, plan_stop, stop_answered}
use Rattle.pdq_core.proofs.CompleteExecution.{delivery_stop}

idle_stop : (schema : Schema) (plan : Plan) → MayRun schema plan → (end : Stop) → IdleStop schema plan end → end ≡ stop.Memory
idle_stop schema plan may end idle_memory = refl
idle_stop schema plan may end (illegal fault not) = absurd (not.unlawful may)

module _ {S : Type 0} (seen : S → Seen) where
  plan_answered : (schema : Schema) (plan : Plan) (calls : ℕ) (names : Names) (before after : Moment) (old new : List (Lane S)) (result : Result Outcome Stop) → NoneRose before after →
      MayRun schema plan → CanExecute seen schema plan calls old new → PlanEnds seen schema plan calls names (outputs_of before) (outputs_of after) old new result → IsAnswered (ended result)
  plan_answered schema plan calls names before after old new result calm may can (idle end why quiet same) = stop_answered end (idle_stop schema plan may) why
  plan_answered schema plan calls names before after old new result calm may can (stopped why end its delivery told) =
      stop_answered end (λ given e. e ∙ delivery_stop seen schema plan calls old new can _ _ _ _ calm.out why delivery) told
  plan_answered schema plan calls names before after old new result calm may can (executed its delivery quiet) = done

  pub exec_answered : (name its : List ℕ) (calls : ℕ) (before after : Moment) (old new : List (Lane S)) (result : Result Outcome Stop) → NoneRose before after →
      (schema : Schema) (plan : Plan) → SchemaIsGiven before.files name schema → PlanIsGiven before.files its plan → MayRun schema plan → CanExecute seen schema plan calls old new →
      ExecEnds seen name its calls before after old new result → IsAnswered (ended result)
  exec_answered name its calls before after old new result calm schema plan given plan_given may can (no_schema end why quiet same) = stop_answered end (schema_stop before.files name _ calm.files schema given) why
  exec_answered name its calls before after old new result calm schema plan given plan_given may can (no_plan other end is why quiet same) =
      stop_answered end (plan_stop before.files its _ calm.files plan plan_given) why
  exec_answered name its calls before after old new result calm schema plan given plan_given may can (read other another same_result is are ends) =
      let schemas = same_schema before.files name schema other given is in
      let plans = same_plan before.files its plan another plan_given are in
      let names : Names = record { schema = name; query = []; plan = its; relations = other.relations } in
      let may_run : MayRun other another = subst (λ (s : Schema). MayRun s another) schemas (subst (λ (p : Plan). MayRun schema p) plans may) in
      let executable : CanExecute seen other another calls old new =
      subst (λ (s : Schema). CanExecute seen s another calls old new) schemas (subst (λ (p : Plan). CanExecute seen schema p calls old new) plans can) in
      plan_answered other another calls names before after old new result calm may_run executable ends
