-- The grammar of a query: the pieces that its parts are written as, and the table of places, which says where a text stops being one.
use Rattle.std.specs.Prelude.{◌≡◌, ◌≢◌, ◌⊎◌, ◌≤◌, List, [], ◌∷◌, ◌++◌, Contains, length, Option, Some, None}
use Rattle.sql_select.specs.declared.piece.Piece.{Piece}
use Rattle.sql_select.specs.declared.piece.Piece.TheVariants as piece
use Rattle.sql_select.specs.declared.piece.RawOperand.{RawOperand}
use Rattle.sql_select.specs.declared.piece.RawOperand.TheVariants as operand
use Rattle.sql_select.specs.declared.piece.Alias.{Alias}
use Rattle.sql_select.specs.declared.piece.Alias.TheVariants as alias
use Rattle.sql_select.specs.declared.piece.RawItem.{RawItem}
use Rattle.sql_select.specs.declared.piece.RawFrom.{RawFrom}
use Rattle.sql_select.specs.declared.piece.RawCondition.{RawCondition}
use Rattle.sql_select.specs.declared.piece.RawSelect.{RawSelect}

abbrev pub shown_operand : RawOperand → List Piece
shown_operand (operand.Plain name) = piece.Name name ∷ []
shown_operand (operand.Prefixed prefix name) = piece.Name prefix ∷ piece.Dot ∷ piece.Name name ∷ []
shown_operand (operand.Value value) = piece.Value value ∷ []

abbrev pub shown_alias : Alias → List Piece
shown_alias alias.Missing = []
shown_alias (alias.Alone name) = piece.Name name ∷ []
shown_alias (alias.After name) = piece.As ∷ piece.Name name ∷ []

abbrev pub shown_item : RawItem → List Piece
shown_item item = shown_operand item.operand ++ shown_alias item.alias

abbrev pub shown_from : RawFrom → List Piece
shown_from from = piece.Name from.relation ∷ shown_alias from.alias

abbrev pub shown_condition : RawCondition → List Piece
shown_condition condition = shown_operand condition.left ++ piece.Equals ∷ shown_operand condition.right

-- further members, each after the separator
abbrev pub further : {X : Type 0} → (X → List Piece) → Piece → List X → List Piece
further f sep [] = []
further f sep (x ∷ xs) = sep ∷ (f x ++ further f sep xs)

-- members with the separator between two of them
abbrev pub parted : {X : Type 0} → (X → List Piece) → Piece → List X → List Piece
parted f sep [] = []
parted f sep (x ∷ xs) = f x ++ further f sep xs

abbrev pub shown_where : List RawCondition → List Piece
shown_where [] = []
shown_where (condition ∷ conditions) = piece.Where ∷ parted shown_condition piece.And (condition ∷ conditions)

-- a select as it is written
abbrev pub shown : RawSelect → List Piece
shown raw = piece.Select ∷ piece.Distinct ∷ (parted shown_item piece.Comma raw.items ++ piece.From ∷ (parted shown_from piece.Comma raw.froms ++ shown_where raw.conditions))

-- the selects of a query as they are written, with `union` between two of them
abbrev pub shown_query : List RawSelect → List Piece
shown_query raws = parted shown piece.Union raws

-- the pieces are the query of these selects, of which there is one or more, and one semicolon may follow
pub record IsText (raws : List RawSelect) (pieces : List Piece) : Type 0 where
  pub some : 1 ≤ length raws
  pub items : (raw : RawSelect) → Contains raws raw → raw.items ≢ []
  pub froms : (raw : RawSelect) → Contains raws raw → raw.froms ≢ []
  pub written : (pieces ≡ shown_query raws) ⊎ (pieces ≡ shown_query raws ++ piece.Semicolon ∷ [])

-- the places of the table, each with what it lists
pub data Place : Type 0 where
  S0 S1 I0 I1 I2 I3 I4 I5 F0 F1 F2 F3 C0 C1 C2 C3 C4 C5 C6 C7 E : Place

abbrev pub next_I5 : Piece → Option Place
next_I5 piece.Comma = Some I0
next_I5 piece.From = Some F0
next_I5 _ = None

abbrev pub next_I3 : Piece → Option Place
next_I3 piece.As = Some I4
next_I3 (piece.Name t) = Some I5
next_I3 p = next_I5 p

abbrev pub next_F3 : Piece → Option Place
next_F3 piece.Comma = Some F0
next_F3 piece.Where = Some C0
next_F3 piece.Union = Some S0
next_F3 piece.Semicolon = Some E
next_F3 _ = None

abbrev pub next_C3 : Piece → Option Place
next_C3 piece.Equals = Some C4
next_C3 _ = None

abbrev pub next_C7 : Piece → Option Place
next_C7 piece.And = Some C0
next_C7 piece.Union = Some S0
next_C7 piece.Semicolon = Some E
next_C7 _ = None

abbrev pub next : Place → Piece → Option Place
next S0 piece.Select = Some S1
next S1 piece.Distinct = Some I0
next I0 (piece.Name t) = Some I1
next I0 (piece.Value t) = Some I3
next I1 piece.Dot = Some I2
next I1 p = next_I3 p
next I2 (piece.Name t) = Some I3
next I3 p = next_I3 p
next I4 (piece.Name t) = Some I5
next I5 p = next_I5 p
next F0 (piece.Name t) = Some F1
next F1 piece.As = Some F2
next F1 (piece.Name t) = Some F3
next F1 p = next_F3 p
next F2 (piece.Name t) = Some F3
next F3 p = next_F3 p
next C0 (piece.Name t) = Some C1
next C0 (piece.Value t) = Some C3
next C1 piece.Dot = Some C2
next C1 p = next_C3 p
next C2 (piece.Name t) = Some C3
next C3 p = next_C3 p
next C4 (piece.Name t) = Some C5
next C4 (piece.Value t) = Some C7
next C5 piece.Dot = Some C6
next C5 p = next_C7 p
next C6 (piece.Name t) = Some C7
next C7 p = next_C7 p
next _ _ = None

-- the places that list the end of the text
abbrev pub IsLast : Place → Type 0
IsLast F1 = Unit {0}
IsLast F3 = Unit {0}
IsLast C5 = Unit {0}
IsLast C7 = Unit {0}
IsLast E = Unit {0}
IsLast _ = ⊥

-- the pieces lead from one place to another
abbrev pub Leads : Place → List Piece → Place → Type 0
Leads p [] q = p ≡ q
Leads p (x ∷ xs) q = (r : Place) × (next p x ≡ Some r) × Leads r xs q

-- what is left begins with a piece that the place does not list
abbrev pub IsStuck : Place → List Piece → Type 0
IsStuck q [] = IsLast q → ⊥
IsStuck q (x ∷ xs) = next q x ≡ None

-- The pieces before these are listed from that place on, one after another, and the first of these, or the end, is not.
pub record StopsAt (from : Place) (pieces after : List Piece) : Type 0 where
  pub before : List Piece
  pub whole : pieces ≡ before ++ after
  pub place : Place
  pub leads : Leads from before place
  pub stuck : IsStuck place after
