-- Which bytes are the statements of a batch over a schema, and which fault other bytes have.
use Rattle.std.specs.Prelude.{◌≡◌, ◌≢◌, ◌⊎◌, ◌≤◌, ◌<◌, ◌+◌, ℕ, List, ◌∷◌, ◌++◌, Contains, length}
use Rattle.std.specs.List.{AllZip}
use Rattle.pq_text.specs.declared.token.Token.{Token}
use Rattle.meaning.specs.declared.types.Statement.{Statement}
use Rattle.access_schema.specs.declared.schema.Schema.{Schema}
use Rattle.access_schema.specs.declared.fault.Limit.TheVariants as limit
use Rattle.sql_select.specs.declared.fault.SqlFault.{SqlFault}
use Rattle.sql_select.specs.declared.fault.SqlFault.TheVariants as fault
use Rattle.sql_select.specs.Statements.{AreTokens, IsStatementText, StatementFits, IsSqlFault}
use Rattle.sql_batch.specs.declared.cutting.Part.{Part}
use Rattle.sql_batch.specs.declared.reading.TheConstants.{TOKENS, WIDTHS}
use Rattle.sql_batch.specs.declared.batch.TheConstants.{MOST_STATEMENTS}
use Rattle.sql_batch.specs.Cutting.{cut, alone}

-- Each part of the bytes is a query, and these are their statements.
abbrev pub AreQueries : Schema → List ℕ → List Part → List Statement → Type 0
AreQueries schema bytes parts statements = AllZip (λ part statement. IsStatementText schema (alone bytes part) statement) parts statements

-- each of the statements fits the schema
abbrev pub AllFit : Schema → List Statement → Type 0
AllFit schema statements = (statement : Statement) → Contains statements statement → StatementFits schema statement

-- The bytes are the statements over the schema: one or more, and not too many, with a semicolon between two of them, where one may
-- stand behind the last too.
pub record IsBatchText (schema : Schema) (bytes : List ℕ) (statements : List Statement) : Type 0 where
  pub tokens : List Token
  pub lexed : AreTokens bytes tokens
  pub queries : AreQueries schema bytes (cut bytes tokens) statements
  pub few : length statements ≤ MOST_STATEMENTS

-- ---- faults

-- the kinds of faults in the order in which they are looked for: no UTF-8, no tokens, no query, limits, widths, names, sorts
abbrev pub kind_of : SqlFault → ℕ
kind_of fault.NoMemory = 0
kind_of (fault.NotUtf8 offset) = 1
kind_of (fault.Lex f) = TOKENS
kind_of (fault.Syntax offset) = 3
kind_of (fault.Unsupported word offset) = 3
kind_of (fault.OverLimit limit) = 4
kind_of (fault.WrongWidth offset) = WIDTHS
kind_of (fault.UnknownName offset) = 6
kind_of (fault.Ambiguous offset) = 6
kind_of (fault.WrongSort offset) = 7

-- The text has no fault of a kind before this one: it is a query, or it has a fault of this kind or a later one.
abbrev pub Reaches : Schema → List ℕ → ℕ → Type 0
Reaches schema text kind =
    ((statement : Statement) × IsStatementText schema text statement)
    ⊎ ((f : SqlFault) × IsSqlFault schema text f × (f ≢ fault.NoMemory) × (kind ≤ kind_of f))

-- The fault is that of the first part that has one of its kind, and no part has one of an earlier kind.
pub record IsFirstFault (schema : Schema) (bytes : List ℕ) (parts : List Part) (f : SqlFault) : Type 0 where
  pub before : List Part
  pub part : Part
  pub after : List Part
  pub whole : parts ≡ before ++ part ∷ after
  pub is : IsSqlFault schema (alone bytes part) f
  pub one : f ≢ fault.NoMemory
  pub earlier : (other : Part) → Contains before other → Reaches schema (alone bytes other) (kind_of f + 1)
  pub later : (other : Part) → Contains after other → Reaches schema (alone bytes other) (kind_of f)

-- The parts have the fault: that of one of them, and then they are not too many where it is of widths, names or sorts; or
-- they are too many.
pub data IsFaultOfQueries (schema : Schema) (bytes : List ℕ) (parts : List Part) (f : SqlFault) : Type 0 where
  of_one : IsFirstFault schema bytes parts f → (WIDTHS ≤ kind_of f → length parts ≤ MOST_STATEMENTS) →
      IsFaultOfQueries schema bytes parts f
  too_many : f ≡ fault.OverLimit limit.Statements →
      ((part : Part) → Contains parts part → Reaches schema (alone bytes part) WIDTHS) → MOST_STATEMENTS < length parts → IsFaultOfQueries schema bytes parts f

-- The bytes have the fault: as for one query they are no UTF-8 or have no tokens; or their queries have it. An offset is one of all bytes.
pub data IsBatchFault (schema : Schema) (bytes : List ℕ) (f : SqlFault) : Type 0 where
  of_text : IsSqlFault schema bytes f → kind_of f ≤ TOKENS → IsBatchFault schema bytes f
  of_queries : (tokens : List Token) → AreTokens bytes tokens → IsFaultOfQueries schema bytes (cut bytes tokens) f → IsBatchFault schema bytes f
