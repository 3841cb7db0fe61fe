-- The parts of a select with their names spelled out.
use Rattle.std.specs.Prelude.{ℕ, ◌+◌, ◌++◌, List, [], ◌∷◌, map, codes}
use Rattle.std.specs.Fmt.{decimal}
use Rattle.pq_text.specs.declared.token.Token.{Token}
use Rattle.pq_text.specs.Standing.{stands_for}
use Rattle.sql_select.specs.declared.piece.RawOperand.{RawOperand}
use Rattle.sql_select.specs.declared.piece.RawOperand.TheVariants as operand
use Rattle.sql_select.specs.declared.piece.Alias.{Alias}
use Rattle.sql_select.specs.declared.piece.Alias.TheVariants as alias
use Rattle.sql_select.specs.declared.piece.RawItem.{RawItem}
use Rattle.sql_select.specs.declared.piece.RawFrom.{RawFrom}
use Rattle.sql_select.specs.declared.piece.RawCondition.{RawCondition}
use Rattle.sql_select.specs.declared.piece.RawSelect.{RawSelect}
use Rattle.sql_select.specs.declared.named.Name.{Name}
use Rattle.sql_select.specs.declared.named.NamedOperand.{NamedOperand}
use Rattle.sql_select.specs.declared.named.NamedOperand.TheVariants as named
use Rattle.sql_select.specs.declared.named.NamedItem.{NamedItem}
use Rattle.sql_select.specs.declared.named.NamedFrom.{NamedFrom}
use Rattle.sql_select.specs.declared.named.NamedCondition.{NamedCondition}
use Rattle.sql_select.specs.declared.named.NamedSelect.{NamedSelect}
use Rattle.sql_select.specs.Words.{written}

-- what a token stands for: a word without capitals, a quoted text without its quotes
abbrev pub spelled : List ℕ → Token → List ℕ
spelled text t = stands_for t.kind (written text t)

abbrev pub name_of : List ℕ → Token → Name
name_of text t = record { text = spelled text t; offset = t.start }

abbrev pub named_operand : List ℕ → RawOperand → NamedOperand
named_operand text (operand.Plain t) = named.Plain (name_of text t)
named_operand text (operand.Prefixed p t) = named.Prefixed (name_of text p) (name_of text t)
named_operand text (operand.Value t) = named.Literal (spelled text t)

-- the second name, or else this one
abbrev pub alias_or : Token → Alias → Token
alias_or t alias.Missing = t
alias_or t (alias.Alone a) = a
alias_or t (alias.After a) = a

abbrev pub named_from : List ℕ → RawFrom → NamedFrom
named_from text from = record { relation = name_of text from.relation; item = name_of text (alias_or from.relation from.alias) }

-- the name of a column is the column's, and the name of a literal is its place, which counts from 1
abbrev pub operand_name : List ℕ → ℕ → RawOperand → List ℕ
operand_name text place (operand.Plain t) = spelled text t
operand_name text place (operand.Prefixed p t) = spelled text t
operand_name text place (operand.Value t) = codes "column" ++ decimal place

-- the name of an item is the second name where it is given
abbrev pub item_name : List ℕ → ℕ → RawOperand → Alias → List ℕ
item_name text place o alias.Missing = operand_name text place o
item_name text place o (alias.Alone a) = spelled text a
item_name text place o (alias.After a) = spelled text a

abbrev pub named_item : List ℕ → ℕ → RawItem → NamedItem
named_item text place item = record { operand = named_operand text item.operand; name = item_name text place item.operand item.alias }

-- items from this place on
abbrev pub named_items : List ℕ → ℕ → List RawItem → List NamedItem
named_items text place [] = []
named_items text place (item ∷ items) = named_item text place item ∷ named_items text (place + 1) items

abbrev pub named_condition : List ℕ → RawCondition → NamedCondition
named_condition text c = record { left = named_operand text c.left; right = named_operand text c.right }

abbrev pub named_select : List ℕ → RawSelect → NamedSelect
named_select text raw = record { items = named_items text 1 raw.items; froms = map (named_from text) raw.froms; conditions = map (named_condition text) raw.conditions }
