-- The line that is written to standard error for each stop.
use Rattle.std.specs.Prelude.{ℕ, ◌+◌, List, [], ◌++◌, Option, None, Some, slice_get, codes}
use Rattle.std.specs.Fmt.{decimal}
use Rattle.meaning.specs.declared.types.Relation.{Relation}
use Rattle.access_schema.specs.declared.fault.Limit.{Limit}
use Rattle.access_schema.specs.declared.fault.Limit.TheVariants as limit
use Rattle.access_schema.specs.declared.fault.SchemaFault.{SchemaFault}
use Rattle.access_schema.specs.declared.fault.SchemaFault.TheVariants as part
use Rattle.pq_text.specs.declared.token.LexFault.{LexFault}
use Rattle.pq_text.specs.declared.token.LexFault.TheVariants as lex
use Rattle.pq_text.specs.Printing.{printed_name}
use Rattle.tgd_reader.specs.declared.fault.ReadFault.{ReadFault}
use Rattle.tgd_reader.specs.declared.fault.ReadFault.TheVariants as schema
use Rattle.sql_select.specs.declared.fault.SqlFault.{SqlFault}
use Rattle.sql_select.specs.declared.fault.SqlFault.TheVariants as query
use Rattle.plan_form.specs.declared.fault.PlanReadFault.{PlanReadFault}
use Rattle.plan_form.specs.declared.fault.PlanReadFault.TheVariants as plan
use Rattle.plan_form.specs.Printing.{illegal_text}
use Rattle.source_trait.specs.declared.files.FileFault.{FileFault}
use Rattle.source_trait.specs.declared.files.FileFault.TheVariants as file
use Rattle.source_trait.specs.declared.source.AttachFault.{AttachFault}
use Rattle.source_trait.specs.declared.source.AttachFault.TheVariants as attach
use Rattle.middleware.specs.declared.fault.RunFault.{RunFault}
use Rattle.middleware.specs.declared.fault.RunFault.TheVariants as run
use Rattle.command_io.specs.declared.stop.Input.{Input}
use Rattle.command_io.specs.declared.stop.Input.TheVariants as input
use Rattle.command_io.specs.declared.stop.Stop.{Stop}
use Rattle.command_io.specs.declared.stop.Stop.TheVariants as stop

-- What the lines name: the files as the words have them, and the relations of the schema.
pub record Names : Type 0 where
  pub schema : List ℕ
  pub query : List ℕ
  pub plan : List ℕ
  pub relations : List Relation

abbrev pub file_name : Names → Input → List ℕ
file_name names input.Schema = names.schema
file_name names input.Query = names.query
file_name names input.Plan = names.plan

abbrev pub memory_line : List ℕ
memory_line = codes "out of memory\n"

abbrev pub write_line : List ℕ
write_line = codes "write failed\n"

-- The line of a file that is not read.
abbrev pub file_line : List ℕ → FileFault → List ℕ
file_line name file.Missing = codes "read " ++ name ++ codes ": missing\n"
file_line name file.TooLarge = codes "read " ++ name ++ codes ": too large\n"
file_line name file.Failed = codes "read " ++ name ++ codes ": failed\n"
file_line name file.NoMemory = memory_line

-- The name of a limit.
abbrev pub limit_name : Limit → List ℕ
limit_name limit.Relations = codes "relations"
limit_name limit.Methods = codes "methods"
limit_name limit.Rules = codes "rules"
limit_name limit.Columns = codes "columns"
limit_name limit.BodyAtoms = codes "body atoms"
limit_name limit.HeadAtoms = codes "head atoms"
limit_name limit.Variables = codes "variables"
limit_name limit.Cost = codes "cost"
limit_name limit.Constants = codes "constants"
limit_name limit.Froms = codes "from items"
limit_name limit.Conditions = codes "conditions"
limit_name limit.Items = codes "items"
limit_name limit.Statements = codes "statements"
limit_name limit.Selects = codes "selects"

-- What is wrong with a part of a schema.
abbrev pub schema_what : SchemaFault → List ℕ
schema_what part.DuplicateName = codes "duplicate name"
schema_what part.UnknownRelation = codes "unknown relation"
schema_what part.WrongArity = codes "wrong arity"
schema_what part.UnknownColumn = codes "unknown column"
schema_what (part.OverLimit limit) = codes "over the limit of " ++ limit_name limit
schema_what part.Recursive = codes "recursive rules"
schema_what part.WrongSort = codes "wrong sort"

-- The line of a fault of a schema text.
abbrev pub schema_line : ReadFault → List ℕ
schema_line schema.NoMemory = memory_line
schema_line (schema.NotUtf8 offset) = codes "schema: not UTF-8 at byte " ++ decimal offset ++ codes "\n"
schema_line (schema.Line line) = codes "schema: line " ++ decimal line ++ codes " is not a declaration\n"
schema_line (schema.Schema line fault) = codes "schema: line " ++ decimal line ++ codes ": " ++ schema_what fault ++ codes "\n"

-- The line of a lexical fault of a query text.
abbrev pub lex_line : LexFault → List ℕ
lex_line lex.NoMemory = memory_line
lex_line (lex.BadByte offset) = codes "query: bad byte at byte " ++ decimal offset ++ codes "\n"
lex_line (lex.OpenQuote offset) = codes "query: open quote at byte " ++ decimal offset ++ codes "\n"

-- The line of a fault of a query text.
abbrev pub query_line : SqlFault → List ℕ
query_line query.NoMemory = memory_line
query_line (query.NotUtf8 offset) = codes "query: not UTF-8 at byte " ++ decimal offset ++ codes "\n"
query_line (query.Syntax offset) = codes "query: syntax at byte " ++ decimal offset ++ codes "\n"
query_line (query.Unsupported word offset) = codes "query: unsupported " ++ word ++ codes " at byte " ++ decimal offset ++ codes "\n"
query_line (query.UnknownName offset) = codes "query: unknown name at byte " ++ decimal offset ++ codes "\n"
query_line (query.Ambiguous offset) = codes "query: ambiguous name at byte " ++ decimal offset ++ codes "\n"
query_line (query.WrongWidth offset) = codes "query: wrong width at byte " ++ decimal offset ++ codes "\n"
query_line (query.OverLimit limit) = codes "query: " ++ (codes "over the limit of " ++ limit_name limit) ++ codes "\n"
query_line (query.Lex fault) = lex_line fault
query_line (query.WrongSort offset) = codes "query: wrong sort at byte " ++ decimal offset ++ codes "\n"

-- The line of a fault of a plan text.
abbrev pub plan_line : PlanReadFault → List ℕ
plan_line plan.NoMemory = memory_line
plan_line (plan.NotUtf8 offset) = codes "plan: not UTF-8 at byte " ++ decimal offset ++ codes "\n"
plan_line (plan.Line line) = codes "plan: line " ++ decimal line ++ codes " does not fit\n"

-- The printed name of a relation.
abbrev pub name_in : Option Relation → List ℕ
name_in None = []
name_in (Some relation) = printed_name relation.name

abbrev pub relation_name : List Relation → ℕ → List ℕ
relation_name relations rel = name_in (slice_get relations rel)

-- The printed name of a column.
abbrev pub text_in : Option (List ℕ) → List ℕ
text_in None = []
text_in (Some name) = printed_name name

abbrev pub column_in : Option Relation → ℕ → List ℕ
column_in None column = []
column_in (Some relation) column = text_in (slice_get relation.columns column)

-- What is wrong with the data of a relation.
abbrev pub attach_line : Option Relation → AttachFault → List ℕ
attach_line relation attach.Missing = codes ": missing\n"
attach_line relation attach.Failed = codes ": failed\n"
attach_line relation (attach.BadHeader column) = codes ": bad header for " ++ column_in relation column ++ codes "\n"
attach_line relation (attach.BadRow number) = codes ": bad row " ++ decimal number ++ codes "\n"
attach_line relation (attach.NotUtf8 number) = codes ": not UTF-8 in row " ++ decimal number ++ codes "\n"
attach_line relation attach.TooLarge = codes ": too large\n"
attach_line relation attach.NoMemory = memory_line

-- A failed call; branches and steps count from 1 in print.
abbrev pub call_text : ℕ → ℕ → List ℕ
call_text branch step = codes "call failed in branch " ++ decimal (branch + 1) ++ codes " step " ++ decimal (step + 1) ++ codes "\n"

-- The line of a fault of the execution; rows count from 1 in print.
abbrev pub run_line : List Relation → RunFault → List ℕ
run_line relations run.NoMemory = memory_line
run_line relations (run.NoSource rel) = codes "source " ++ relation_name relations rel ++ codes ": no source line\n"
run_line relations (run.UnknownKind rel) = codes "source " ++ relation_name relations rel ++ codes ": unknown kind\n"
run_line relations (run.Attach rel fault) = codes "source " ++ relation_name relations rel ++ attach_line (slice_get relations rel) fault
run_line relations (run.CallFailed branch step) = call_text branch step
run_line relations (run.OverCalls made wanted cap) =
    codes "call cap: " ++ decimal made ++ codes " made, " ++ decimal wanted ++ codes " wanted, cap " ++ decimal cap ++ codes "\n"
run_line relations (run.BadNumber rel column) = codes "source " ++ relation_name relations rel ++ codes ": bad number for "
    ++ column_in (slice_get relations rel) column ++ codes "\n"

-- The line of a failed call of a round; rounds count from 1 in print.
abbrev pub round_line : ℕ → List ℕ
round_line round = codes "call failed in round " ++ decimal (round + 1) ++ codes "\n"

-- The line of a failed call of a query of a batch; queries count from 1 in print too.
abbrev pub query_call_line : ℕ → ℕ → ℕ → List ℕ
query_call_line query branch step = codes "query " ++ decimal (query + 1) ++ codes ": " ++ call_text branch step

-- The line of a stop.
abbrev pub fault_line : Names → Stop → List ℕ
fault_line names stop.Memory = memory_line
fault_line names stop.Words = codes "words: not understood\n"
fault_line names (stop.File input fault) = file_line (file_name names input) fault
fault_line names (stop.Schema fault) = schema_line fault
fault_line names (stop.Query fault) = query_line fault
fault_line names (stop.Plan fault) = plan_line fault
fault_line names stop.DecisionWrite = write_line
fault_line names (stop.Illegal fault) = illegal_text fault
fault_line names (stop.Run fault) = run_line names.relations fault
fault_line names (stop.RoundFailed round) = round_line round
fault_line names (stop.QueryCall query branch step) = query_call_line query branch step
fault_line names (stop.WholeFailed rel) = codes "call failed on " ++ relation_name names.relations rel ++ codes "\n"
fault_line names (stop.NotMet line) = line
fault_line names stop.ResultWrite = write_line
