-- The text files that a command reads, and why one is not read.
use Rattle.std.specs.Prelude.{◌≡◌, ◌≢◌, ◌&&◌, ◌<◌, ◌≤◌, ℕ, Bool, false, List, ◌∷◌, drop, Option, None, Some, IfSome, IsSomeAnd, MatchOption, length, nat_eq, if◌then◌else◌}
use Rattle.meaning.specs.declared.types.Statement.{Statement}
use Rattle.meaning.specs.declared.types.Plan.{Plan}
use Rattle.access_schema.specs.declared.schema.Schema.{Schema}
use Rattle.tgd_reader.specs.SchemaText.{IsSchemaText, IsReadFault}
use Rattle.tgd_reader.specs.declared.fault.ReadFault.{ReadFault}
use Rattle.tgd_reader.specs.declared.fault.ReadFault.TheVariants as schema_fault
use Rattle.sql_select.specs.Statements.{IsStatementText, IsSqlFault}
use Rattle.sql_select.specs.declared.fault.SqlFault.{SqlFault}
use Rattle.sql_select.specs.declared.fault.SqlFault.TheVariants as query_fault
use Rattle.sql_batch.specs.Batches.{IsBatchText, IsBatchFault}
use Rattle.plan_form.specs.Grammar.{IsPlanText, IsPlanReadFault}
use Rattle.plan_form.specs.declared.fault.PlanReadFault.{PlanReadFault}
use Rattle.plan_form.specs.declared.fault.PlanReadFault.TheVariants as plan_fault
use Rattle.source_trait.specs.Outside.{bytes_of}
use Rattle.source_trait.specs.declared.files.FileFault.{FileFault}
use Rattle.source_trait.specs.declared.files.FileFault.TheVariants as file
use Rattle.command_io.specs.declared.inputs.TheConstants.{SCHEMA_LIMIT, QUERY_LIMIT, PLAN_LIMIT}
use Rattle.command_io.specs.declared.stop.Input.{Input}
use Rattle.command_io.specs.declared.stop.Input.TheVariants as input
use Rattle.command_io.specs.declared.stop.Stop.{Stop}
use Rattle.command_io.specs.declared.stop.Stop.TheVariants as stop

-- Names with their bytes.
abbrev pub Contents : Type 0
Contents = List (List ℕ × List ℕ)

-- The bytes begin with a byte order mark.
abbrev pub has_mark : List ℕ → Bool
has_mark (a ∷ b ∷ c ∷ rest) = nat_eq a 239 && (nat_eq b 187 && nat_eq c 191)
has_mark _ = false

-- The bytes behind the byte order mark, if they begin with one.
abbrev pub without_mark : List ℕ → List ℕ
without_mark bytes = if has_mark bytes then drop 3 bytes else bytes

-- The text of bytes within the limit has the fact, and they are the file's bytes where those are told.
pub record IsText (told : Option Contents) (name : List ℕ) (limit : ℕ) (P : List ℕ → Type 0) : Type 0 where
  pub bytes : List ℕ
  pub within : length bytes ≤ limit
  pub holds : P (without_mark bytes)
  pub of_file : IfSome told (λ files. bytes_of files name ≡ Some bytes)

-- The schema file's text is that of the schema.
abbrev pub SchemaIsRead : Option Contents → List ℕ → Schema → Type 0
SchemaIsRead told name schema = IsText told name SCHEMA_LIMIT (λ text. IsSchemaText text schema)

-- The query file's text is that of the statement over the schema.
abbrev pub QueryIsRead : Option Contents → List ℕ → Schema → Statement → Type 0
QueryIsRead told name schema statement = IsText told name QUERY_LIMIT (λ text. IsStatementText schema text statement)

-- The query file's text is that of a batch of these statements over the schema.
abbrev pub BatchIsRead : Option Contents → List ℕ → Schema → List Statement → Type 0
BatchIsRead told name schema statements = IsText told name QUERY_LIMIT (λ text. IsBatchText schema text statements)

-- The plan file's text is that of the plan.
abbrev pub PlanIsRead : Option Contents → List ℕ → Plan → Type 0
PlanIsRead told name plan = IsText told name PLAN_LIMIT (λ text. IsPlanText text plan)

-- Why a file is not read: a told file is missing or longer than the limit, or the count of faults rose.
abbrev pub FileCause : FileFault → Option Contents → List ℕ → ℕ → Type 0 → Type 0
FileCause file.Missing told name limit rose = MatchOption told rose (λ files. bytes_of files name ≡ None)
FileCause file.TooLarge told name limit rose = MatchOption told rose (λ files. IsSomeAnd (bytes_of files name) (λ bytes. limit < length bytes))
FileCause file.Failed told name limit rose = rose
FileCause file.NoMemory told name limit rose = ⊥

-- Why a file is not read: memory was wanted, or the fault of the file has its cause.
pub data FileStop (told : Option Contents) (name : List ℕ) (limit : ℕ) (rose : Type 0) (which : Input) : Stop → Type 0 where
  no_memory : FileStop told name limit rose which stop.Memory
  not_read : (fault : FileFault) → FileCause fault told name limit rose → FileStop told name limit rose which (stop.File which fault)

-- Why no schema is read from the file of this name: there was no memory, the file is not read, or its text has this fault, which
-- is never a lack of memory.
pub data SchemaStop (told : Option Contents) (name : List ℕ) (rose : Type 0) : Stop → Type 0 where
  no_memory : SchemaStop told name rose stop.Memory
  no_file : (end : Stop) → FileStop told name SCHEMA_LIMIT rose input.Schema end → SchemaStop told name rose end
  no_schema : (fault : ReadFault) → fault ≢ schema_fault.NoMemory → IsText told name SCHEMA_LIMIT (λ text. IsReadFault text fault) → SchemaStop told name rose (stop.Schema fault)

-- Why no statement over the schema is read from the file of this name, likewise.
pub data QueryStop (told : Option Contents) (name : List ℕ) (schema : Schema) (rose : Type 0) : Stop → Type 0 where
  no_memory : QueryStop told name schema rose stop.Memory
  no_file : (end : Stop) → FileStop told name QUERY_LIMIT rose input.Query end → QueryStop told name schema rose end
  no_statement : (fault : SqlFault) → fault ≢ query_fault.NoMemory → IsText told name QUERY_LIMIT (λ text. IsSqlFault schema text fault) → QueryStop told name schema rose (stop.Query fault)

-- Why no batch over the schema is read from the file of this name, likewise.
pub data BatchStop (told : Option Contents) (name : List ℕ) (schema : Schema) (rose : Type 0) : Stop → Type 0 where
  no_memory : BatchStop told name schema rose stop.Memory
  no_file : (end : Stop) → FileStop told name QUERY_LIMIT rose input.Query end → BatchStop told name schema rose end
  no_batch : (fault : SqlFault) → fault ≢ query_fault.NoMemory → IsText told name QUERY_LIMIT (λ text. IsBatchFault schema text fault) → BatchStop told name schema rose (stop.Query fault)

-- Why no plan is read from the file of this name, likewise.
pub data PlanStop (told : Option Contents) (name : List ℕ) (rose : Type 0) : Stop → Type 0 where
  no_memory : PlanStop told name rose stop.Memory
  no_file : (end : Stop) → FileStop told name PLAN_LIMIT rose input.Plan end → PlanStop told name rose end
  no_plan : (fault : PlanReadFault) → fault ≢ plan_fault.NoMemory → IsText told name PLAN_LIMIT (λ text. IsPlanReadFault text fault) → PlanStop told name rose (stop.Plan fault)

-- Why no schema, or then no statement over it, is read from the files of these names.
pub data TextsStop (told : Option Contents) (schema_name query_name : List ℕ) (rose : Type 0) : Stop → Type 0 where
  no_schema : (end : Stop) → SchemaStop told schema_name rose end → TextsStop told schema_name query_name rose end
  no_statement : (schema : Schema) (end : Stop) → SchemaIsRead told schema_name schema → QueryStop told query_name schema rose end →
      TextsStop told schema_name query_name rose end
