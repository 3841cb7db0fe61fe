-- What a reader asks of a token, and what stands at the front of the tokens that are left.
use Rattle.std.specs.Prelude.{◌≡◌, ◌&&◌, ◌++◌, ℕ, zero, suc, codes, Bool, true, false, List, [], ◌∷◌, Option, None, Some, Result, Ok, Err, nat_eq, not, length, ◌==◌, if◌then◌else◌}
use Rattle.std.specs.Cmp.Lexicographic.{pointwise}
use Rattle.pq_text.specs.declared.token.TokenKind.{TokenKind}
use Rattle.pq_text.specs.declared.token.TokenKind.TheVariants.{Word, Quoted, Text, Number, Symbol}
use Rattle.pq_text.specs.declared.lexeme.Lexeme.{Lexeme}
use Rattle.pq_text.specs.declared.cursor.Misfit.{Misfit}
use Rattle.pq_text.specs.declared.cursor.Misfit.TheVariants.{NoMemory, NoFit}

abbrev pub kind_is_word : TokenKind → Bool
kind_is_word Word = true
kind_is_word _ = false

abbrev pub kind_is_symbol : TokenKind → Bool
kind_is_symbol Symbol = true
kind_is_symbol _ = false

abbrev pub kind_is_number : TokenKind → Bool
kind_is_number Number = true
kind_is_number _ = false

abbrev pub kind_is_text : TokenKind → Bool
kind_is_text Text = true
kind_is_text _ = false

abbrev pub kind_names : TokenKind → Bool
kind_names Word = true
kind_names Quoted = true
kind_names _ = false

abbrev pub kind_is_value : TokenKind → Bool
kind_is_value Text = true
kind_is_value Number = true
kind_is_value _ = false

abbrev pub is_word : List ℕ → Lexeme → Bool
is_word text l = kind_is_word l.kind && pointwise nat_eq l.text text

abbrev pub is_symbol : List ℕ → Lexeme → Bool
is_symbol text l = kind_is_symbol l.kind && pointwise nat_eq l.text text

-- a name is a Word or a Quoted, which stand for one character or more; a value is a Text or a Number
abbrev pub is_name : Lexeme → Bool
is_name l = kind_names l.kind && not (length l.text == 0)

abbrev pub is_value : Lexeme → Bool
is_value l = kind_is_value l.kind

abbrev pub is_text : Lexeme → Bool
is_text l = kind_is_text l.kind

abbrev pub is_number : Lexeme → Bool
is_number l = kind_is_number l.kind

-- ---- what stands at the front, and the tokens behind it

abbrev pub symbol_at : List ℕ → List Lexeme → Option (List Lexeme)
symbol_at text [] = None
symbol_at text (l ∷ ls) = if is_symbol text l then Some ls else None

abbrev pub word_at : List ℕ → List Lexeme → Option (List Lexeme)
word_at text [] = None
word_at text (l ∷ ls) = if is_word text l then Some ls else None

abbrev pub name_at : List Lexeme → Option (List ℕ × List Lexeme)
name_at [] = None
name_at (l ∷ ls) = if is_name l then Some (l.text, ls) else None

abbrev pub value_at : List Lexeme → Option (List ℕ × List Lexeme)
value_at [] = None
value_at (l ∷ ls) = if is_value l then Some (l.text, ls) else None

abbrev pub text_at : List Lexeme → Option (List ℕ × List Lexeme)
text_at [] = None
text_at (l ∷ ls) = if is_text l then Some (l.text, ls) else None

abbrev pub number_at : List Lexeme → Option (List ℕ × List Lexeme)
number_at [] = None
number_at (l ∷ ls) = if is_number l then Some (l.text, ls) else None

abbrev pub word_next : List ℕ → List Lexeme → Bool
word_next text [] = false
word_next text (l ∷ ls) = is_word text l

abbrev pub name_next : List Lexeme → Bool
name_next [] = false
name_next (l ∷ ls) = is_name l

abbrev pub end_at : List Lexeme → Option (List Lexeme)
end_at [] = Some []
end_at (l ∷ ls) = None

infixl 10 ◌>>=◌
abbrev pub ◌>>=◌ : {A B : Type 0} → Option A → (A → Option B) → Option B
None >>= f = None
(Some x) >>= f = f x

-- ---- members with a comma between two

abbrev pub comma : List ℕ
comma = codes ","

abbrev pub next_member : {X : Type 0} → (List Lexeme → Option (List X × List Lexeme)) → List X → List Lexeme → Option (List Lexeme) → Option (List X × List Lexeme)
next_member go xs rest None = Some (xs, rest)
next_member go xs rest (Some after) = go after

-- Members behind those that are done, as long as a comma follows; turns is at least their number.
unfoldable pub members : {X : Type 0} → (List Lexeme → Option (X × List Lexeme)) → ℕ → List X → List Lexeme → Option (List X × List Lexeme)
members item zero done ls = None
members item (suc turns) done ls = item ls >>= λ x. next_member (members item turns (done ++ x.0 ∷ [])) (done ++ x.0 ∷ []) x.1 (symbol_at comma x.1)

-- names, and values, with a comma between two
abbrev pub names_at : List Lexeme → Option (List (List ℕ) × List Lexeme)
names_at ls = members name_at (length ls) [] ls

abbrev pub values_at : List Lexeme → Option (List (List ℕ) × List Lexeme)
values_at ls = members value_at (length ls) [] ls

-- A call gave what reading gives, and left the rest; memory may have run out.
abbrev pub Gives : {X : Type 0} → List Lexeme → Result X Misfit → Option (X × List Lexeme) → Type 0
Gives rest (Ok x) read = read ≡ Some (x, rest)
Gives rest (Err NoFit) read = read ≡ None
Gives rest (Err NoMemory) read = Unit {0}

abbrev pub GivesRest : {X : Type 0} → List Lexeme → Result X Misfit → Option (List Lexeme) → Type 0
GivesRest rest (Ok x) read = read ≡ Some rest
GivesRest rest (Err NoFit) read = read ≡ None
GivesRest rest (Err NoMemory) read = Unit {0}
