-- The lines of a text in the style Lines: the tokens between two ends of lines, with what they stand for.
use Rattle.std.specs.Prelude.{◌≡◌, ◌+◌, ◌++◌, ℕ, Bool, true, false, List, [], ◌∷◌, None, Some, take, count_by, nat_eq, if◌then◌else◌}
use Rattle.pq_text.specs.declared.token.Style.TheVariants.{Lines}
use Rattle.pq_text.specs.declared.token.TokenKind.{TokenKind}
use Rattle.pq_text.specs.declared.token.TokenKind.TheVariants.{Eol}
use Rattle.pq_text.specs.declared.token.Token.{Token}
use Rattle.pq_text.specs.declared.token.Stop.{Stop}
use Rattle.pq_text.specs.declared.token.Stop.TheVariants.{End, BadByte, OpenQuote}
use Rattle.pq_text.specs.declared.token.Lexed.{Lexed}
use Rattle.pq_text.specs.declared.lexeme.Lexeme.{Lexeme}
use Rattle.pq_text.specs.declared.lexeme.Line.{Line}
use Rattle.pq_text.specs.declared.lexeme.TextLines.{TextLines}
use Rattle.pq_text.specs.Tokens.{IsFront}
use Rattle.pq_text.specs.Standing.{lexeme_for}

abbrev pub kind_is_eol : TokenKind → Bool
kind_is_eol Eol = true
kind_is_eol _ = false

-- how many line feeds the bytes have
abbrev pub feeds : List ℕ → ℕ
feeds bytes = count_by (λ b. nat_eq b 10) bytes

-- the number of the line in which the byte at a place stands: line feeds in quotes count too
abbrev pub number_at : List ℕ → ℕ → ℕ
number_at text place = 1 + feeds (take place text)

-- the lines with one token more in front
abbrev pub into_first : Lexeme → List Line → List Line
into_first l [] = []
into_first l (line ∷ lines) = record { number = line.number; tokens = l ∷ line.tokens } ∷ lines

-- The lines of these tokens, where a line of this number begins with them.
abbrev pub cut : List ℕ → ℕ → List Token → List Line
cut text number [] = record { number = number; tokens = [] } ∷ []
cut text number (t ∷ ts) =
    if kind_is_eol t.kind then record { number = number; tokens = [] } ∷ cut text (number_at text t.end) ts
    else into_first (lexeme_for text t) (cut text number ts)

-- Behind a lexical fault the last of the lines is the one that holds the fault, and only its number is told.
abbrev pub Tells : Stop → List Line → TextLines → Type 0
Tells End all told = (told.whole ≡ all) × (told.broken ≡ None)
Tells (BadByte offset) all told = (last : Line) × (all ≡ told.whole ++ last ∷ []) × (told.broken ≡ Some last.number)
Tells (OpenQuote offset) all told = (last : Line) × (all ≡ told.whole ++ last ∷ []) × (told.broken ≡ Some last.number)

-- The lines of a text up to its end or its first lexical fault.
pub record AreLines (text : List ℕ) (told : TextLines) : Type 0 where
  pub lexed : Lexed
  pub front : IsFront Lines text lexed
  pub tells : Tells lexed.stop (cut text 1 lexed.tokens) told
