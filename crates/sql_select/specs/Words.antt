-- Tokens as the grammar sees them: keywords and symbols that a query has, names, values, and what queries may not have.
use Rattle.std.specs.Prelude.{ℕ, List, [], ◌∷◌, Bool, true, false, codes, map, slice_range, nat_eq, if◌then◌else◌}
use Rattle.std.specs.Cmp.Lexicographic.{pointwise}
use Rattle.pq_text.specs.declared.token.Token.{Token}
use Rattle.pq_text.specs.declared.token.TokenKind.{TokenKind}
use Rattle.pq_text.specs.declared.token.TokenKind.TheVariants as kind
use Rattle.pq_text.specs.Standing.{lowered}
use Rattle.access_schema.specs.Lists.{is_among}
use Rattle.sql_select.specs.declared.piece.Piece.{Piece}
use Rattle.sql_select.specs.declared.piece.Piece.TheVariants as piece

-- a token as it is written
abbrev pub written : List ℕ → Token → List ℕ
written text t = slice_range text t.start t.end

-- the words that no query may have, and that are no names either
abbrev pub first_words : List (List ℕ)
first_words = codes "all" ∷ codes "between" ∷ codes "case" ∷ codes "cross" ∷ codes "except" ∷ codes "exists" ∷ codes "fetch" ∷ codes "full" ∷ []

abbrev pub second_words : List (List ℕ)
second_words = codes "group" ∷ codes "having" ∷ codes "in" ∷ codes "inner" ∷ codes "intersect" ∷ codes "is" ∷ codes "join" ∷ codes "left" ∷ []

abbrev pub third_words : List (List ℕ)
third_words = codes "like" ∷ codes "limit" ∷ codes "natural" ∷ codes "not" ∷ codes "null" ∷ codes "offset" ∷ codes "on" ∷ codes "or" ∷ []

abbrev pub fourth_words : List (List ℕ)
fourth_words = codes "order" ∷ codes "outer" ∷ codes "right" ∷ codes "using" ∷ codes "with" ∷ []

abbrev pub is_refused_word : List ℕ → Bool
is_refused_word word = if is_among first_words word then true else (if is_among second_words word then true else (if is_among third_words word then true else is_among fourth_words word))

-- the symbols that no query may have, though SQL has them
abbrev pub refused_symbols : List (List ℕ)
refused_symbols =
    codes "*" ∷ codes "<" ∷ codes ">" ∷ codes "<=" ∷ codes ">=" ∷ codes "<>" ∷ codes "!=" ∷ codes "(" ∷ codes "+" ∷ codes "-" ∷ codes "/" ∷ codes "|" ∷ []

-- Whether a token of these bytes is an unsupported word or symbol. A name in quotes never is.
abbrev pub is_refused : TokenKind → List ℕ → Bool
is_refused kind.Word bytes = is_refused_word (map lowered bytes)
is_refused kind.Symbol bytes = is_among refused_symbols bytes
is_refused _ bytes = false

abbrev pub is_unsupported : List ℕ → Token → Bool
is_unsupported text t = is_refused t.kind (written text t)

-- a word that is no keyword and not unsupported is a name
abbrev pub name_or_other : Token → List ℕ → Piece
name_or_other t word = if is_refused_word word then piece.Other else piece.Name t

abbrev pub word_piece : Token → List ℕ → Piece
word_piece t word =
    if pointwise nat_eq (codes "select") word then piece.Select else (if pointwise nat_eq (codes "distinct") word then piece.Distinct
    else (if pointwise nat_eq (codes "from") word then piece.From else (if pointwise nat_eq (codes "where") word then piece.Where
    else (if pointwise nat_eq (codes "and") word then piece.And
    else (if pointwise nat_eq (codes "as") word then piece.As
    else (if pointwise nat_eq (codes "union") word then piece.Union else name_or_other t word))))))

abbrev pub symbol_piece : List ℕ → Piece
symbol_piece bytes =
    if pointwise nat_eq (codes ",") bytes then piece.Comma else (if pointwise nat_eq (codes ".") bytes then piece.Dot
    else (if pointwise nat_eq (codes "=") bytes then piece.Equals else (if pointwise nat_eq (codes ";") bytes then piece.Semicolon else piece.Other)))

-- a token of this kind and these bytes as the grammar sees it
abbrev pub piece_for : TokenKind → Token → List ℕ → Piece
piece_for kind.Word t bytes = word_piece t (map lowered bytes)
piece_for kind.Quoted t bytes = piece.Name t
piece_for kind.Text t bytes = piece.Value t
piece_for kind.Number t bytes = piece.Value t
piece_for kind.Symbol t bytes = symbol_piece bytes
piece_for kind.Eol t bytes = piece.Other

abbrev pub piece_of : List ℕ → Token → Piece
piece_of text t = piece_for t.kind t (written text t)

-- the tokens of a text as the grammar sees them
abbrev pub pieces_of : List ℕ → List Token → List Piece
pieces_of text tokens = map (piece_of text) tokens
