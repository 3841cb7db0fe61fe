-- The fault that is kept while the queries of a batch are read.
use Rattle.std.specs.Prelude.{ℕ, Option, Some, None, Result, Ok, Err, Bool, false, nat_le, nat_lt, List, if◌then◌else◌}
use Rattle.std.specs.Str.{IsUtf8}
use Rattle.meaning.specs.declared.types.Statement.{Statement}
use Rattle.sql_select.specs.declared.fault.SqlFault.{SqlFault}
use Rattle.sql_select.specs.declared.fault.SqlFault.TheVariants as fault
use Rattle.sql_select.specs.Statements.{IsLexFault}
use Rattle.sql_batch.specs.declared.reading.TheConstants.{WIDTHS}
use Rattle.sql_batch.specs.declared.batch.TheConstants.{MOST_STATEMENTS}
use Rattle.access_schema.specs.declared.schema.Schema.{Schema}
use Rattle.sql_batch.specs.declared.cutting.Part.{Part}
use Rattle.sql_batch.specs.declared.reading.Progress.{Progress}
use Rattle.sql_batch.specs.Batches.{kind_of, AreQueries, AllFit, IsFirstFault}

-- of the fault so far and that of a later part, the one of the earlier kind
abbrev pub first_of : Option SqlFault → SqlFault → SqlFault
first_of None new = new
first_of (Some old) new = if nat_le (kind_of old) (kind_of new) then old else new

-- what was read of these parts: statements alone, or the first fault of the first kind
abbrev pub AreRead : Schema → List ℕ → List Part → List Statement → Option SqlFault → Type 0
AreRead schema bytes parts statements None = AreQueries schema bytes parts statements
AreRead schema bytes parts statements (Some f) = IsFirstFault schema bytes parts f

-- the parts were read so far
pub record IsRead (schema : Schema) (bytes : List ℕ) (parts : List Part) (read : Progress) : Type 0 where
  pub so_far : AreRead schema bytes parts read.statements read.first
  pub fit : AllFit schema read.statements

abbrev pub result_of : List Statement → Option SqlFault → Result (List Statement) SqlFault
result_of statements None = Ok statements
result_of statements (Some f) = Err f

abbrev pub outcome_of : Progress → Result (List Statement) SqlFault
outcome_of read = result_of read.statements read.first

-- there are too many parts, and none has a fault of a kind that is looked for before that
abbrev pub are_too_many : ℕ → Result (List Statement) SqlFault → Bool
are_too_many count (Ok statements) = nat_lt MOST_STATEMENTS count
are_too_many count (Err f) = if nat_le WIDTHS (kind_of f) then nat_lt MOST_STATEMENTS count else false

-- The text has no tokens, and this fault says so.
abbrev pub IsTextFault : List ℕ → SqlFault → Type 0
IsTextFault text fault.NoMemory = Unit {0}
IsTextFault text (fault.Lex f) = IsUtf8 text × IsLexFault text f
IsTextFault text _ = ⊥
