-- Which bytes are a statement over a schema, and which fault other bytes have.
use Rattle.std.specs.Prelude.{◌≡◌, ◌≤◌, ◌⊎◌, ◌++◌, ℕ, List, [], ◌∷◌, Bool, true, false, Some, Contains, length, slice_get}
use Rattle.std.specs.List.{AllZip}
use Rattle.std.specs.Str.{IsUtf8}
use Rattle.pq_text.specs.declared.token.Token.{Token}
use Rattle.pq_text.specs.declared.token.Style.TheVariants.{Sql}
use Rattle.pq_text.specs.declared.token.LexFault.{LexFault}
use Rattle.pq_text.specs.declared.token.LexFault.TheVariants as lex
use Rattle.pq_text.specs.Tokens.{Lexes, HasFault}
use Rattle.pq_text.specs.Utf8.{IsFirstBad}
use Rattle.meaning.specs.declared.types.Relation.{Relation}
use Rattle.meaning.specs.declared.types.Select.{Select}
use Rattle.meaning.specs.declared.types.Statement.{Statement}
use Rattle.meaning.specs.Conjunctive.{SelectFits}
use Rattle.access_schema.specs.declared.schema.Schema.{Schema}
use Rattle.access_schema.specs.Meaning.{meaning_of}
use Rattle.sql_select.specs.declared.limits.TheConstants.{MOST_FROMS, MOST_CONDITIONS, MOST_ITEMS, MOST_SELECTS}
use Rattle.sql_select.specs.declared.piece.RawSelect.{RawSelect}
use Rattle.sql_select.specs.declared.named.NameFault.{NameFault}
use Rattle.sql_select.specs.declared.named.NameFault.TheVariants as name
use Rattle.sql_select.specs.declared.fault.SqlFault.{SqlFault}
use Rattle.sql_select.specs.declared.fault.SqlFault.TheVariants as fault
use Rattle.sql_select.specs.Words.{written, is_unsupported, pieces_of}
use Rattle.sql_select.specs.Grammar.{IsText, S0, StopsAt}
use Rattle.sql_select.specs.Limits.{AreWithinLimits, IsOver}
use Rattle.sql_select.specs.Widths.{AreAlikeWide, IsFirstOtherWide, select_offsets}
use Rattle.sql_select.specs.Naming.{named_select}
use Rattle.sql_select.specs.Names.{IsMeaning, IsNameFault}
use Rattle.sql_select.specs.Sorts.{SelectsAreSorted, IsFirstUnsorted}

-- The bytes are UTF-8, and their tokens, up to the end, are these.
pub record AreTokens (bytes : List ℕ) (tokens : List Token) : Type 0 where
  pub utf8 : IsUtf8 bytes
  pub lexes : Lexes Sql bytes 0 tokens (length bytes)

-- The bytes are written as these selects.
pub record IsWritten (bytes : List ℕ) (raws : List RawSelect) : Type 0 where
  pub tokens : List Token
  pub lexed : AreTokens bytes tokens
  pub text : IsText raws (pieces_of bytes tokens)

-- The select is what the written one means over the relations.
abbrev pub Means : List Relation → List ℕ → RawSelect → Select → Type 0
Means relations bytes raw select = IsMeaning relations (named_select bytes raw) select

-- The bytes are the statement over the schema: its selects, within the limits and of one width, with each name one that
-- is there, and each condition sorted.
pub record IsStatementText (schema : Schema) (bytes : List ℕ) (statement : Statement) : Type 0 where
  pub raws : List RawSelect
  pub written : IsWritten bytes raws
  pub within : AreWithinLimits raws
  pub wide : AreAlikeWide raws
  pub means : AllZip (Means schema.relations bytes) raws statement.selects
  pub sorted : SelectsAreSorted (meaning_of schema) statement.selects

-- ---- what a statement keeps

-- One or more items and as many names, one or more FROM items, and no limit passed.
pub record IsBounded (select : Select) : Type 0 where
  pub some_items : 1 ≤ length select.items
  pub items : length select.items ≤ MOST_ITEMS
  pub names : length select.names ≡ length select.items
  pub some_froms : 1 ≤ length select.froms
  pub froms : length select.froms ≤ MOST_FROMS
  pub conditions : length select.conditions ≤ MOST_CONDITIONS

-- The statement has one select or more and not too many, of one width, each over the schema, within the limits and with
-- conditions that are sorted.
pub record StatementFits (schema : Schema) (statement : Statement) : Type 0 where
  pub some : 1 ≤ length statement.selects
  pub few : length statement.selects ≤ MOST_SELECTS
  pub wide : (first second : Select) → Contains statement.selects first → Contains statement.selects second →
      length first.items ≡ length second.items
  pub fits : (select : Select) → Contains statement.selects select → SelectFits (meaning_of schema) select
  pub bounded : (select : Select) → Contains statement.selects select → IsBounded select
  pub sorted : SelectsAreSorted (meaning_of schema) statement.selects

-- ---- the columns of a result

-- The names of the columns of a statement's rows are those of its first select.
abbrev pub result_names : List Select → List (List ℕ)
result_names [] = []
result_names (select ∷ selects) = select.names

-- ---- faults

-- The first place of the bytes that begins no token has this fault.
abbrev pub IsLexFault : List ℕ → LexFault → Type 0
IsLexFault bytes lex.NoMemory = ⊥
IsLexFault bytes (lex.BadByte offset) = HasFault Sql bytes (lex.BadByte offset)
IsLexFault bytes (lex.OpenQuote offset) = HasFault Sql bytes (lex.OpenQuote offset)

-- The tokens before these are those of the beginning of a query, and the first of these, or the end, goes on with none.
pub record IsMisfit (bytes : List ℕ) (after : List Token) : Type 0 where
  pub tokens : List Token
  pub lexed : AreTokens bytes tokens
  pub stops : StopsAt S0 (pieces_of bytes tokens) (pieces_of bytes after)
  pub before : List Token
  pub whole : tokens ≡ before ++ after

-- where the first of the tokens begins, or the end of the text
abbrev pub offset_of : List ℕ → List Token → ℕ
offset_of bytes [] = length bytes
offset_of bytes (t ∷ ts) = t.start

abbrev pub begins_unsupported : List ℕ → List Token → Bool
begins_unsupported bytes [] = false
begins_unsupported bytes (t ∷ ts) = is_unsupported bytes t

-- the first of the tokens as it is written
abbrev pub first_written : List ℕ → List Token → List ℕ
first_written bytes [] = []
first_written bytes (t ∷ ts) = written bytes t

-- The fault is that of the names of the first select that has one; each select before it has a meaning.
abbrev pub IsFirstNameFault : List Relation → List ℕ → List RawSelect → NameFault → Type 0
IsFirstNameFault relations bytes [] f = ⊥
IsFirstNameFault relations bytes (raw ∷ raws) f =
    IsNameFault relations (named_select bytes raw) f
    ⊎ ((select : Select) × Means relations bytes raw select × IsFirstNameFault relations bytes raws f)

-- the place of the word `select` with which the first select of another width begins
abbrev pub IsWrongWidth : List ℕ → ℕ → Type 0
IsWrongWidth bytes offset =
    (raws : List RawSelect) × (tokens : List Token) × AreTokens bytes tokens × IsText raws (pieces_of bytes tokens)
    × AreWithinLimits raws
    × ((number : ℕ) × IsFirstOtherWide raws number × (slice_get (select_offsets bytes tokens) number ≡ Some offset))

-- The names of the selects have a meaning, and the first condition that is not sorted begins at the offset.
pub record IsWrongSort (schema : Schema) (bytes : List ℕ) (offset : ℕ) : Type 0 where
  pub raws : List RawSelect
  pub written : IsWritten bytes raws
  pub within : AreWithinLimits raws
  pub wide : AreAlikeWide raws
  pub selects : List Select
  pub means : AllZip (Means schema.relations bytes) raws selects
  pub first : IsFirstUnsorted (meaning_of schema) raws selects offset

-- The bytes have the fault. Faults are looked for in the order: no UTF-8, no tokens, no query, limits, widths, names,
-- sorts.
abbrev pub IsSqlFault : Schema → List ℕ → SqlFault → Type 0
IsSqlFault schema bytes fault.NoMemory = Unit {0}
IsSqlFault schema bytes (fault.NotUtf8 offset) = IsFirstBad bytes offset
IsSqlFault schema bytes (fault.Lex f) = IsUtf8 bytes × IsLexFault bytes f
IsSqlFault schema bytes (fault.Syntax offset) =
    (after : List Token) × IsMisfit bytes after × (begins_unsupported bytes after ≡ false) × (offset ≡ offset_of bytes after)
IsSqlFault schema bytes (fault.Unsupported word offset) =
    (after : List Token) × IsMisfit bytes after × (begins_unsupported bytes after ≡ true) × (offset ≡ offset_of bytes after) × (word ≡ first_written bytes after)
IsSqlFault schema bytes (fault.OverLimit limit) = (raws : List RawSelect) × IsWritten bytes raws × IsOver raws limit
IsSqlFault schema bytes (fault.WrongWidth offset) = IsWrongWidth bytes offset
IsSqlFault schema bytes (fault.UnknownName offset) =
    (raws : List RawSelect) × IsWritten bytes raws × AreWithinLimits raws × AreAlikeWide raws
    × IsFirstNameFault schema.relations bytes raws (name.Unknown offset)
IsSqlFault schema bytes (fault.Ambiguous offset) =
    (raws : List RawSelect) × IsWritten bytes raws × AreWithinLimits raws × AreAlikeWide raws
    × IsFirstNameFault schema.relations bytes raws (name.Ambiguous offset)
IsSqlFault schema bytes (fault.WrongSort offset) = IsWrongSort schema bytes offset
