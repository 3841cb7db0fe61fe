-- How the command `world` ends, and what is so of each way.
use Rattle.std.specs.Prelude.{◌≡◌, ◌≢◌, ◌↔◌, ℕ, List, [], Contains, Result, Err}
use Rattle.meaning.specs.declared.types.Fact.{Fact}
use Rattle.meaning.specs.declared.types.Plan.{Plan}
use Rattle.meaning.specs.declared.types.Statement.{Statement}
use Rattle.meaning.specs.Rows.{IsRow}
use Rattle.meaning.specs.Answers.{Answers}
use Rattle.meaning.specs.Claims.{IsModel}
use Rattle.access_schema.specs.declared.schema.Schema.{Schema}
use Rattle.access_schema.specs.Meaning.{meaning_of}
use Rattle.source_trait.specs.Asking.{Seen}
use Rattle.source_trait.specs.Causes.{Rose}
use Rattle.source_trait.specs.declared.lanes.Lane.{Lane}
use Rattle.tgd_reader.specs.SchemaText.{IsSchemaText, IsReadFault}
use Rattle.tgd_reader.specs.declared.fault.ReadFault.{ReadFault}
use Rattle.tgd_reader.specs.declared.fault.ReadFault.TheVariants as schema_fault
use Rattle.sql_select.specs.Statements.{IsStatementText, IsSqlFault}
use Rattle.sql_select.specs.declared.fault.SqlFault.{SqlFault}
use Rattle.sql_select.specs.declared.fault.SqlFault.TheVariants as query_fault
use Rattle.middleware.specs.declared.fault.Run.{Run}
use Rattle.middleware.specs.LaneBranches.{LanesHoldPlan}
use Rattle.command_io.specs.declared.stop.Stop.{Stop}
use Rattle.command_io.specs.declared.stop.Stop.TheVariants as stop
use Rattle.command_io.specs.declared.outcome.Outcome.{Outcome}
use Rattle.command_io.specs.declared.delivery.TheConstants.{CALLS}
use Rattle.command_io.specs.Executing.{ExecutesOrStops}
use Rattle.command_io.specs.Moments.{Outputs}
use Rattle.command_io.specs.Telling.{StopsFor}
use Rattle.command_io.specs.Reports.{summary}
use Rattle.world_source.specs.Texts.{schema_text, query_text}
use Rattle.run_command.specs.Ends.{StatementEnds}
use Rattle.run_command.specs.declared.world.TheConstants.{FIRINGS, UNITS}

-- ---- the summary of an execution

-- The text is the summary of the requests and the rows of the execution. They are the plan's on whatever instance the sources of each lane hold, and
-- so the statement's answers where the instance meets the rules.
pub record IsSummary {S : Type 0} (seen : S → Seen) (size : ℕ) (schema : Schema) (statement : Statement) (lanes : List (Lane S)) (plan : Plan) (run : Run) (text : List ℕ) : Type 0 where
  pub given : text ≡ summary size run.made run.rows
  pub rows : (instance : List Fact) → LanesHoldPlan seen schema plan lanes instance → (row : List (List ℕ)) → Contains run.rows row ↔ IsRow (meaning_of schema) plan instance row
  pub answers : (instance : List Fact) → LanesHoldPlan seen schema plan lanes instance → IsModel (meaning_of schema) instance →
      (row : List (List ℕ)) → Contains run.rows row ↔ Answers statement instance row

-- ---- ends

-- Why the texts of a world of this size are not read: there was no memory, or one of them has a fault, which is never a lack of memory.
pub data WorldStop (size : ℕ) : Stop → Type 0 where
  no_memory : WorldStop size stop.Memory
  no_schema : (fault : ReadFault) → fault ≢ schema_fault.NoMemory → IsReadFault (schema_text size) fault → WorldStop size (stop.Schema fault)
  no_statement : (schema : Schema) (fault : SqlFault) → IsSchemaText (schema_text size) schema → fault ≢ query_fault.NoMemory → IsSqlFault schema query_text fault →
      WorldStop size (stop.Query fault)

-- How `world` ends: its texts were not read, and nothing but the line was written; or both were read, and the statement was decided with the
-- default budgets and executed as by `run`, but that standard output took the summary.
pub data WorldEnds {S : Type 0} (seen : S → Seen) (size : ℕ) (before after : Outputs) (old new : List (Lane S)) : Result Outcome Stop → Type 0 where
  refused : (end : Stop) → StopsFor (WorldStop size) (record { schema = []; query = []; plan = []; relations = [] }) before.err after.err (Rose before.err_faults after.err_faults) end →
      after.out ≡ before.out → new ≡ old → WorldEnds seen size before after old new (Err end)
  read : (schema : Schema) (statement : Statement) (result : Result Outcome Stop) → IsSchemaText (schema_text size) schema → IsStatementText schema query_text statement →
      StatementEnds schema statement FIRINGS UNITS (λ plan. ExecutesOrStops seen schema plan CALLS old new) (IsSummary seen size schema statement new)
      (record { schema = []; query = []; plan = []; relations = schema.relations }) before after old new result →
      WorldEnds seen size before after old new result
