-- The faults of a text that is no query, and the fault at the token where it stops being one.
use Rattle.std.specs.Prelude.{◌≡◌, ℕ, List, true, false}
use Rattle.pq_text.specs.declared.token.Token.{Token}
use Rattle.sql_select.specs.declared.fault.SqlFault.{SqlFault}
use Rattle.sql_select.specs.declared.fault.SqlFault.TheVariants as fault
use Rattle.sql_select.specs.declared.piece.RawSelect.{RawSelect}
use Rattle.sql_select.specs.Words.{written, is_unsupported}
use Rattle.sql_select.specs.Limits.{IsOver}
use Rattle.std.specs.Str.{IsUtf8}
use Rattle.sql_select.specs.Statements.{IsWritten, IsLexFault, IsMisfit, offset_of, begins_unsupported, first_written, IsWrongWidth}

-- the fault where these tokens are left
abbrev pub IsMisfitFault : List ℕ → List Token → SqlFault → Type 0
IsMisfitFault text after fault.NoMemory = Unit {0}
IsMisfitFault text after (fault.Syntax offset) = (begins_unsupported text after ≡ false) × (offset ≡ offset_of text after)
IsMisfitFault text after (fault.Unsupported word offset) = (begins_unsupported text after ≡ true) × (offset ≡ offset_of text after) × (word ≡ first_written text after)
IsMisfitFault text after _ = ⊥

-- the fault at this token
abbrev pub IsTokenFault : List ℕ → Token → SqlFault → Type 0
IsTokenFault text t fault.NoMemory = Unit {0}
IsTokenFault text t (fault.Syntax offset) = (is_unsupported text t ≡ false) × (offset ≡ t.start)
IsTokenFault text t (fault.Unsupported word offset) = (is_unsupported text t ≡ true) × (offset ≡ t.start) × (word ≡ written text t)
IsTokenFault text t _ = ⊥

-- The text has the fault: of tokens, of the place where it stops being a query, of a limit, or of a width.
abbrev pub IsTextFault : List ℕ → SqlFault → Type 0
IsTextFault text fault.NoMemory = Unit {0}
IsTextFault text (fault.Lex f) = IsUtf8 text × IsLexFault text f
IsTextFault text (fault.Syntax offset) =
    (after : List Token) × IsMisfit text after × (begins_unsupported text after ≡ false) × (offset ≡ offset_of text after)
IsTextFault text (fault.Unsupported word offset) =
    (after : List Token) × IsMisfit text after × (begins_unsupported text after ≡ true) × (offset ≡ offset_of text after) × (word ≡ first_written text after)
IsTextFault text (fault.OverLimit limit) = (raws : List RawSelect) × IsWritten text raws × IsOver raws limit
IsTextFault text (fault.WrongWidth offset) = IsWrongWidth text offset
IsTextFault text _ = ⊥
