-- A form is what a grammar asks of the tokens of a line, one after another.
use Rattle.std.specs.Prelude.{◌≡◌, ◌++◌, ℕ, Bool, true, List, [], ◌∷◌}
use Rattle.pq_text.specs.declared.lexeme.Lexeme.{Lexeme}
use Rattle.pq_text.specs.Lexemes.{comma, is_word, is_symbol, is_name, is_value, is_text, is_number}

-- a word, a symbol, a name, a value or a text that stands for this, or a number whose digits pass a test
pub data Slot : Type 0 where
  Key : List ℕ → Slot
  Mark : List ℕ → Slot
  Name : List ℕ → Slot
  Value : List ℕ → Slot
  Quote : List ℕ → Slot
  Digits : (List ℕ → Bool) → Slot

abbrev pub Fits : Lexeme → Slot → Type 0
Fits l (Key text) = is_word text l ≡ true
Fits l (Mark text) = is_symbol text l ≡ true
Fits l (Name text) = (is_name l ≡ true) × (l.text ≡ text)
Fits l (Value text) = (is_value l ≡ true) × (l.text ≡ text)
Fits l (Quote text) = (is_text l ≡ true) × (l.text ≡ text)
Fits l (Digits test) = (is_number l ≡ true) × (test l.text ≡ true)

-- The first tokens have the form, and the rest is what stands behind them.
abbrev pub Takes : List Lexeme → List Slot → List Lexeme → Type 0
Takes ls [] rest = ls ≡ rest
Takes [] (s ∷ ss) rest = ⊥
Takes (l ∷ ls) (s ∷ ss) rest = Fits l s × Takes ls ss rest

-- "x , .." : members with a comma between two
abbrev pub further_form : {X : Type 0} → (X → List Slot) → List X → List Slot
further_form slots [] = []
further_form slots (x ∷ xs) = Mark comma ∷ (slots x ++ further_form slots xs)

abbrev pub list_form : {X : Type 0} → (X → List Slot) → List X → List Slot
list_form slots [] = []
list_form slots (x ∷ xs) = slots x ++ further_form slots xs

-- one member or more
abbrev pub IsSome : {X : Type 0} → List X → Type 0
IsSome [] = ⊥
IsSome (x ∷ xs) = Unit {0}

abbrev pub name_form : List ℕ → List Slot
name_form n = Name n ∷ []

abbrev pub value_form : List ℕ → List Slot
value_form v = Value v ∷ []
