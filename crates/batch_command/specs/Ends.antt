-- How the command `batch` ends, and what is so of each way.
use Rattle.std.specs.Prelude.{◌≡◌, ◌+◌, ◌++◌, ℕ, List, [], ◌∷◌, Contains, Option, Some, Result, Ok, Err, codes, length, slice_get}
use Rattle.std.specs.Fmt.{decimal}
use Rattle.meaning.specs.declared.types.Statement.{Statement}
use Rattle.meaning.specs.declared.types.Plan.{Plan}
use Rattle.access_schema.specs.declared.schema.Schema.{Schema}
use Rattle.sql_select.specs.Statements.{result_names}
use Rattle.source_trait.specs.Asking.{Seen}
use Rattle.source_trait.specs.Causes.{Rose}
use Rattle.source_trait.specs.declared.lanes.Lane.{Lane}
use Rattle.row_text.specs.RowText.{IsRowText}
use Rattle.middleware.specs.declared.fault.Run.{Run}
use Rattle.plan_batches.specs.Batching.{ExecutesAll}
use Rattle.plan_batches.specs.declared.fault.BatchFault.{BatchFault}
use Rattle.command_io.specs.declared.stop.Stop.{Stop}
use Rattle.command_io.specs.declared.outcome.Outcome.{Outcome}
use Rattle.command_io.specs.declared.outcome.Outcome.TheVariants as outcome
use Rattle.command_io.specs.Inputs.{Contents, SchemaIsRead, SchemaStop, BatchIsRead, BatchStop}
use Rattle.command_io.specs.Moments.{Moment, Outputs, outputs_of, Between}
use Rattle.command_io.specs.FaultLines.{Names}
use Rattle.command_io.specs.Telling.{StopsFor}
use Rattle.command_io.specs.Executing.{Delivers, stop_of_batch}
use Rattle.run_command.specs.Ends.{IsResult}
use Rattle.run_command.specs.declared.settings.Limits.{Limits}
use Rattle.batch_command.specs.Deciding.{Told, plans_of, AreTold, Halts}

-- ---- what is written of an execution

-- the line in front of the rows of the query of this number
abbrev pub answer_line : ℕ → List ℕ
answer_line number = codes "-- query " ++ decimal number ++ codes "\n"

-- the parts, each behind the line of its number, from this number on
abbrev pub parts_text : ℕ → List (List ℕ) → List ℕ
parts_text number [] = []
parts_text number (part ∷ parts) = answer_line number ++ part ++ parts_text (number + 1) parts

-- The text has a part for each of the statements, with its plan and its run, behind the line of its number.
pub record AreParts (IsPart : Statement → Plan → Run → List ℕ →
    Type 0) (statements : List Statement) (plans : List Plan) (runs : List Run) (text : List ℕ) : Type 0 where
  pub parts : List (List ℕ)
  pub count : length parts ≡ length statements
  pub each : (k : ℕ) (statement : Statement) (plan : Plan) (run : Run) (part : List ℕ) → slice_get statements k ≡ Some statement →
      slice_get plans k ≡ Some plan →
      slice_get runs k ≡ Some run → slice_get parts k ≡ Some part → IsPart statement plan run part
  pub text_is : text ≡ parts_text 1 parts

-- the part is the text of the rows that the run gave, under the statement's names
abbrev pub IsGiven : Statement → Plan → Run → List ℕ → Type 0
IsGiven statement plan run part = IsRowText (result_names statement.selects) (Contains run.rows) part

-- plans that are executed together, as a command sees it: a fault is the stop that it brings
abbrev pub ExecutesOrStops : {S : Type 0} → (S → Seen) → Schema → ℕ → List (Lane S) → List (Lane S) → List Plan →
    Result (List Run) Stop → Type 0
ExecutesOrStops seen schema cap old new plans (Ok runs) = ExecutesAll seen schema plans cap old new (Ok runs)
ExecutesOrStops seen schema cap old new plans (Err end) =
    (why : BatchFault) × ExecutesAll seen schema plans cap old new (Err why) × (end ≡ stop_of_batch why.plan why.fault)

-- ---- ends

-- What became of the statements: they were decided no further than one of them, and nothing was executed; or they have plans, whose texts
-- were written, and these were executed together, as `Ran` says, and standard output took the text of the results, whole or not.
pub data StatementsEnd {S : Type 0} (schema : Schema) (statements : List Statement) (firings search : ℕ)
    (Ran : List Plan → Result (List Run) Stop → Type 0) (IsText : List Plan → List Run → List ℕ →
    Type 0) (names : Names) (before after : Outputs) (old new : List (Lane S)) : Result Outcome Stop → Type 0 where
  -- one of them has no plan, or was not decided, or its decision was not written whole; nothing but standard error was touched
  halted : (result : Result Outcome Stop) → Halts schema firings search statements names before.err after.err before.err_faults
      after.err_faults result →
      after.out ≡ before.out → new ≡ old → StatementsEnd schema statements firings search Ran IsText names before after old new result
  -- the plans were written whole, and their execution stopped, or the text of the results was not written whole
  stopped : (told : List Told) (middle : Option (List ℕ)) (count : Between before.err_faults after.err_faults) (why end : Stop) →
      AreTold schema firings search statements before.err middle told →
      Delivers (Ran (plans_of told)) (IsText (plans_of told)) before.out after.out (Rose before.out_faults after.out_faults) (Err why) →
      StopsFor (λ given. given ≡ why) names middle after.err (Rose count.faults after.err_faults) end →
      StatementsEnd schema statements firings search Ran IsText names before after old new (Err end)
  -- they were executed, and the results were written whole
  done : (told : List Told) → AreTold schema firings search statements before.err after.err told →
      Delivers (Ran (plans_of told)) (IsText (plans_of told)) before.out after.out (Rose before.out_faults after.out_faults) (Ok tt) →
      StatementsEnd schema statements firings search Ran IsText names before after old new (Ok outcome.Done)

-- Why no schema, or then no batch over it, is read from the files of these names.
pub data BatchTextsStop (told : Option Contents) (schema_name queries_name : List ℕ) (rose : Type 0) : Stop → Type 0 where
  no_schema : (end : Stop) → SchemaStop told schema_name rose end → BatchTextsStop told schema_name queries_name rose end
  no_batch : (schema : Schema) (end : Stop) → SchemaIsRead told schema_name schema → BatchStop told queries_name schema rose end →
      BatchTextsStop told schema_name queries_name rose end

-- How `batch` ends: a text was refused, and nothing but the line was written; or both were read, and the statements were decided.
pub data BatchEnds {S : Type 0} (seen : S → Seen) (schema_name queries_name : List ℕ) (limits : Limits) (before after : Moment)
    (old new : List (Lane S)) :
    Result Outcome Stop → Type 0 where
  refused : (end : Stop) →
      StopsFor (BatchTextsStop before.files schema_name queries_name (Rose before.file_faults after.file_faults))
      (record { schema = schema_name; query = queries_name; plan = []; relations = [] }) before.err after.err
      (Rose before.err_faults after.err_faults) end →
      after.out ≡ before.out → new ≡ old → BatchEnds seen schema_name queries_name limits before after old new (Err end)
  read : (schema : Schema) (statements : List Statement) (result : Result Outcome Stop) →
      SchemaIsRead before.files schema_name schema → BatchIsRead before.files queries_name schema statements →
      StatementsEnd schema statements limits.firings limits.search (ExecutesOrStops seen schema limits.calls old new)
      (AreParts (λ statement plan run. IsResult seen schema statement new plan run) statements)
      (record { schema = schema_name; query = queries_name; plan = []; relations = schema.relations }) (outputs_of before)
      (outputs_of after) old new result →
      BatchEnds seen schema_name queries_name limits before after old new result
