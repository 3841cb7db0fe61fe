-- A printed text as pieces: each is a token's bytes, some with a blank before.
use Rattle.std.specs.Prelude.{◌≡◌, ◌++◌, ◌+◌, ℕ, codes, Bool, true, false, List, [], ◌∷◌, map, length}
use Rattle.std.specs.Fmt.{decimal}
use Rattle.pq_text.specs.declared.token.Style.{Style}
use Rattle.pq_text.specs.declared.token.TokenKind.{TokenKind}
use Rattle.pq_text.specs.declared.token.TokenKind.TheVariants.{Word, Text, Number, Symbol, Eol}
use Rattle.pq_text.specs.declared.token.Token.{Token}
use Rattle.pq_text.specs.declared.scan.Found.TheVariants.{Begins}
use Rattle.pq_text.specs.declared.lexeme.Lexeme.{Lexeme}
use Rattle.pq_text.specs.declared.lexeme.Line.{Line}
use Rattle.pq_text.specs.Tokens.{gap_from, token_at}
use Rattle.pq_text.specs.Standing.{stands_for}
use Rattle.pq_text.specs.Printing.{printed_kind, printed_name, printed_value}
use Rattle.pq_text.specs.Lines.{feeds, kind_is_eol}

pub record Piece : Type 0 where
  pub spaced : Bool
  pub kind : TokenKind
  pub bytes : List ℕ

abbrev pub behind_blank : Bool → List ℕ → List ℕ
behind_blank true bytes = 32 ∷ bytes
behind_blank false bytes = bytes

abbrev pub text_of : List Piece → List ℕ
text_of [] = []
text_of (x ∷ xs) = behind_blank x.spaced (x.bytes ++ text_of xs)

abbrev pub start_of : Bool → ℕ → ℕ
start_of true n = n + 1
start_of false n = n

-- the tokens of the pieces, where the first begins at a place
abbrev pub tokens_of : ℕ → List Piece → List Token
tokens_of n [] = []
tokens_of n (x ∷ xs) = record { kind = x.kind; start = start_of x.spaced n; «end» = start_of x.spaced n + length x.bytes } ∷ tokens_of (start_of x.spaced n + length x.bytes) xs

-- a piece with what it stands for
abbrev pub piece_lexeme : Piece → Lexeme
piece_lexeme x = record { kind = x.kind; text = stands_for x.kind x.bytes }

-- A piece is lexed as its token, with what follows it.
pub record IsLexed (style : Style) (x : Piece) (rest : List ℕ) : Type 0 where
  pub token : (n : ℕ) → token_at style n (x.bytes ++ rest) ≡ Begins x.kind (n + length x.bytes)
  pub no_gap : (n : ℕ) → gap_from n style false (x.bytes ++ rest) ≡ n

-- Each piece is lexed as its token, with what follows them all.
abbrev pub AreLexed : Style → List Piece → List ℕ → Type 0
AreLexed style [] rest = Unit {0}
AreLexed style (x ∷ xs) rest = IsLexed style x (text_of xs ++ rest) × AreLexed style xs rest

-- ---- lines

abbrev pub eol : Piece
eol = record { spaced = false; kind = Eol; bytes = 10 ∷ [] }

-- the text of lines, each with a line feed at its end
abbrev pub lines_text : List (List Piece) → List ℕ
lines_text [] = []
lines_text (line ∷ lines) = text_of line ++ 10 ∷ lines_text lines

-- the lines of these pieces, numbered on from a number, and the empty one behind the last line feed
abbrev pub numbered : ℕ → List (List Piece) → List Line
numbered n [] = record { number = n; tokens = [] } ∷ []
numbered n (line ∷ lines) = record { number = n; tokens = map piece_lexeme line } ∷ numbered (n + feeds (text_of line) + 1) lines

abbrev pub AreInLine : List Piece → Type 0
AreInLine [] = Unit {0}
AreInLine (x ∷ xs) = (kind_is_eol x.kind ≡ false) × AreInLine xs

-- Each piece of a line is lexed as its token, whatever follows the line, and none ends the line.
pub record IsPrintedLine (style : Style) (line : List Piece) : Type 0 where
  pub lexed : (rest : List ℕ) → AreLexed style line (10 ∷ rest)
  pub one : AreInLine line

abbrev pub ArePrintedLines : Style → List (List Piece) → Type 0
ArePrintedLines style [] = Unit {0}
ArePrintedLines style (line ∷ lines) = IsPrintedLine style line × ArePrintedLines style lines

-- ---- the pieces of grammars

abbrev pub word_piece : Bool → List ℕ → Piece
word_piece spaced text = record { spaced = spaced; kind = Word; bytes = text }

abbrev pub mark_piece : Bool → List ℕ → Piece
mark_piece spaced text = record { spaced = spaced; kind = Symbol; bytes = text }

abbrev pub name_piece : Bool → List ℕ → Piece
name_piece spaced name = record { spaced = spaced; kind = printed_kind name; bytes = printed_name name }

abbrev pub value_piece : Bool → List ℕ → Piece
value_piece spaced value = record { spaced = spaced; kind = Text; bytes = printed_value value }

abbrev pub number_piece : Bool → ℕ → Piece
number_piece spaced n = record { spaced = spaced; kind = Number; bytes = decimal n }

-- members with a comma and a blank between two
abbrev pub further_pieces : {X : Type 0} → (Bool → X → List Piece) → List X → List Piece
further_pieces item [] = []
further_pieces item (x ∷ xs) = mark_piece false (codes ",") ∷ (item true x ++ further_pieces item xs)

abbrev pub list_pieces : {X : Type 0} → (Bool → X → List Piece) → Bool → List X → List Piece
list_pieces item spaced [] = []
list_pieces item spaced (x ∷ xs) = item spaced x ++ further_pieces item xs
