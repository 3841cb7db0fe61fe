-- How the command `exec` ends, and what is so of each way.
use Rattle.std.specs.Prelude.{◌≡◌, ℕ, List, [], Contains, Result, Ok, Err}
use Rattle.meaning.specs.declared.types.Fact.{Fact}
use Rattle.meaning.specs.declared.types.Plan.{Plan}
use Rattle.meaning.specs.Plans.{IsLawful}
use Rattle.meaning.specs.Rows.{IsRow}
use Rattle.access_schema.specs.declared.schema.Schema.{Schema}
use Rattle.access_schema.specs.Meaning.{meaning_of}
use Rattle.plan_form.specs.declared.fault.PlanFault.{PlanFault}
use Rattle.plan_form.specs.Faults.{IsFirstFault}
use Rattle.source_trait.specs.Asking.{Seen}
use Rattle.source_trait.specs.Causes.{Rose}
use Rattle.source_trait.specs.declared.lanes.Lane.{Lane}
use Rattle.row_text.specs.RowText.{IsRowText}
use Rattle.middleware.specs.declared.fault.Run.{Run}
use Rattle.middleware.specs.LaneBranches.{LanesHoldPlan}
use Rattle.command_io.specs.declared.stop.Stop.{Stop}
use Rattle.command_io.specs.declared.outcome.Outcome.{Outcome}
use Rattle.command_io.specs.declared.outcome.Outcome.TheVariants as outcome
use Rattle.command_io.specs.declared.stop.Stop.TheVariants as stop
use Rattle.command_io.specs.Inputs.{SchemaIsRead, PlanIsRead, SchemaStop, PlanStop}
use Rattle.command_io.specs.Moments.{Moment, Outputs, outputs_of}
use Rattle.command_io.specs.FaultLines.{Names}
use Rattle.command_io.specs.Telling.{StopsFor}
use Rattle.command_io.specs.Executing.{ExecutesOrStops, Delivers}
use Rattle.exec_command.specs.Known.{known_to, column_names}

-- The plan is lawful over the schema, its constants and the plan's own.
abbrev pub MayRun : Schema → Plan → Type 0
MayRun schema plan = IsLawful plan (meaning_of schema) (known_to schema plan)

-- The plan is not, and this is its first fault.
pub record MayNotRun (schema : Schema) (plan : Plan) (fault : PlanFault) : Type 0 where
  pub unlawful : MayRun schema plan → ⊥
  pub first : IsFirstFault plan (meaning_of schema) (known_to schema plan) fault

-- Why a plan is not executed: memory was wanted for the constants or the names of the columns, or it is not lawful.
pub data IdleStop (schema : Schema) (plan : Plan) : Stop → Type 0 where
  no_memory : IdleStop schema plan stop.Memory
  illegal : (fault : PlanFault) → MayNotRun schema plan fault → IdleStop schema plan (stop.Illegal fault)

-- The text is that of the rows that the execution gave, which are the plan's on whatever instance the sources of each lane hold.
pub record IsResult {S : Type 0} (seen : S → Seen) (schema : Schema) (plan : Plan) (lanes : List (Lane S)) (run : Run) (text : List ℕ) : Type 0 where
  pub given : IsRowText (column_names plan.width) (Contains run.rows) text
  pub rows : (instance : List Fact) → LanesHoldPlan seen schema plan lanes instance →
      IsRowText (column_names plan.width) (IsRow (meaning_of schema) plan instance) text

-- What became of a plan: it was not executed; or it is lawful and was, with at most so many calls, and standard output took the text of
-- its rows, whole or not.
pub data PlanEnds {S : Type 0} (seen : S → Seen) (schema : Schema) (plan : Plan) (calls : ℕ) (names : Names)
    (before after : Outputs) (old new : List (Lane S)) :
    Result Outcome Stop → Type 0 where
  -- it was not executed, and nothing but the line was written
  idle : (end : Stop) →
      StopsFor (IdleStop schema plan) names before.err after.err (Rose before.err_faults after.err_faults) end →
      after.out ≡ before.out → new ≡ old → PlanEnds seen schema plan calls names before after old new (Err end)
  -- its execution stopped, or the text of its rows was not written whole
  stopped : (why end : Stop) → MayRun schema plan →
      Delivers (ExecutesOrStops seen schema plan calls old new) (IsResult seen schema plan new) before.out after.out (Rose before.out_faults after.out_faults) (Err why) →
      StopsFor (λ given. given ≡ why) names before.err after.err (Rose before.err_faults after.err_faults) end →
      PlanEnds seen schema plan calls names before after old new (Err end)
  -- it was executed, the text was written whole, and nothing was written on standard error
  done : MayRun schema plan →
      Delivers (ExecutesOrStops seen schema plan calls old new) (IsResult seen schema plan new) before.out after.out (Rose before.out_faults after.out_faults) (Ok tt) →
      after.err ≡ before.err → PlanEnds seen schema plan calls names before after old new (Ok outcome.Done)

-- How `exec` ends: a text was refused, and nothing but the line was written; or both were read.
pub data ExecEnds {S : Type 0} (seen : S → Seen) (schema_name plan_name : List ℕ) (calls : ℕ)
    (before after : Moment) (old new : List (Lane S)) :
    Result Outcome Stop → Type 0 where
  no_schema : (end : Stop) →
      StopsFor (SchemaStop before.files schema_name (Rose before.file_faults after.file_faults))
      (record { schema = schema_name; query = []; plan = plan_name; relations = [] }) before.err after.err (Rose before.err_faults after.err_faults) end →
      after.out ≡ before.out → new ≡ old → ExecEnds seen schema_name plan_name calls before after old new (Err end)
  no_plan : (schema : Schema) (end : Stop) → SchemaIsRead before.files schema_name schema →
      StopsFor (PlanStop before.files plan_name (Rose before.file_faults after.file_faults))
      (record { schema = schema_name; query = []; plan = plan_name; relations = [] }) before.err after.err (Rose before.err_faults after.err_faults) end →
      after.out ≡ before.out → new ≡ old → ExecEnds seen schema_name plan_name calls before after old new (Err end)
  read : (schema : Schema) (plan : Plan) (result : Result Outcome Stop) →
      SchemaIsRead before.files schema_name schema → PlanIsRead before.files plan_name plan →
      PlanEnds seen schema plan calls (record { schema = schema_name; query = []; plan = plan_name; relations = schema.relations })
      (outputs_of before) (outputs_of after) old new result →
      ExecEnds seen schema_name plan_name calls before after old new result
