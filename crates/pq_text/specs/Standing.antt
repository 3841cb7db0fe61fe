-- What a token stands for.
use Rattle.std.specs.Prelude.{◌&&◌, ◌+◌, ℕ, Bool, true, false, List, [], ◌∷◌, map, slice_range, nat_eq, nat_le, if◌then◌else◌}
use Rattle.pq_text.specs.declared.token.TokenKind.{TokenKind}
use Rattle.pq_text.specs.declared.token.TokenKind.TheVariants.{Word, Quoted, Text, Number, Symbol, Eol}
use Rattle.pq_text.specs.declared.token.Token.{Token}
use Rattle.pq_text.specs.declared.lexeme.Lexeme.{Lexeme}

-- doubled quotes made single, and the closing quote left out, of the bytes behind an opening quote
abbrev pub single : ℕ → Bool → List ℕ → List ℕ
single quote behind [] = []
single quote true (b ∷ bs) = b ∷ single quote false bs
single quote false (b ∷ bs) = if nat_eq b quote then single quote true bs else b ∷ single quote false bs

abbrev pub inside : ℕ → List ℕ → List ℕ
inside quote [] = []
inside quote (b ∷ bs) = single quote false bs

abbrev pub lowered : ℕ → ℕ
lowered b = if nat_le 65 b && nat_le b 90 then b + 32 else b

-- what the bytes of a token stand for
abbrev pub stands_for : TokenKind → List ℕ → List ℕ
stands_for Word bytes = map lowered bytes
stands_for Quoted bytes = inside 34 bytes
stands_for Text bytes = inside 39 bytes
stands_for Number bytes = bytes
stands_for Symbol bytes = bytes
stands_for Eol bytes = bytes

-- a token of a text with what it stands for
abbrev pub lexeme_for : List ℕ → Token → Lexeme
lexeme_for text t = record { kind = t.kind; text = stands_for t.kind (slice_range text t.start t.end) }
