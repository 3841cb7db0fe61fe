-- How the text of a batch is cut into the texts of its queries.
use Rattle.std.specs.Prelude.{◌≤◌, ◌++◌, ℕ, List, [], ◌∷◌, Bool, true, false, ◌&&◌, codes, length, nat_eq, replicate, slice_range, if◌then◌else◌}
use Rattle.std.specs.Cmp.Lexicographic.{pointwise}
use Rattle.pq_text.specs.declared.token.Token.{Token}
use Rattle.pq_text.specs.declared.token.TokenKind.{TokenKind}
use Rattle.pq_text.specs.declared.token.TokenKind.TheVariants as kind
use Rattle.sql_select.specs.Words.{written}
use Rattle.sql_batch.specs.declared.cutting.Part.{Part}

abbrev pub is_symbol : TokenKind → Bool
is_symbol kind.Symbol = true
is_symbol _ = false

abbrev pub is_semicolon : List ℕ → Token → Bool
is_semicolon bytes t = is_symbol t.kind && pointwise nat_eq (codes ";") (written bytes t)

-- A query ends with a semicolon that has tokens behind it.
abbrev pub ends_query : List ℕ → Token → List Token → Bool
ends_query bytes t [] = false
ends_query bytes t (next ∷ after) = is_semicolon bytes t

-- the parts from this place on: each up to the end of its semicolon, and the last up to the end of the text
abbrev pub cut_from : List ℕ → ℕ → List Token → List Part
cut_from bytes from [] = record { from = from; to = length bytes } ∷ []
cut_from bytes from (t ∷ ts) = if ends_query bytes t ts then record { from = from; to = t.end } ∷ cut_from bytes t.end ts else cut_from bytes from ts

-- the parts of a text with these tokens
abbrev pub cut : List ℕ → List Token → List Part
cut bytes tokens = cut_from bytes 0 tokens

-- The part lies in the text.
pub record IsPart (bytes : List ℕ) (part : Part) : Type 0 where
  pub order : part.from ≤ part.to
  pub within : part.to ≤ length bytes

-- the part behind blanks in place of what stands before it, so that each of its bytes keeps its place
abbrev pub alone : List ℕ → Part → List ℕ
alone bytes part = replicate part.from 32 ++ slice_range bytes part.from part.to
