-- The tokens of a select's parts stand in the text.
use Rattle.std.specs.Prelude.{ℕ, List}
use Rattle.std.specs.List.{AllByRecursion}
use Rattle.pq_text.specs.Spans.{IsSpan}
use Rattle.sql_select.specs.declared.piece.RawOperand.{RawOperand}
use Rattle.sql_select.specs.declared.piece.RawOperand.TheVariants as operand
use Rattle.sql_select.specs.declared.piece.Alias.{Alias}
use Rattle.sql_select.specs.declared.piece.Alias.TheVariants as alias
use Rattle.sql_select.specs.declared.piece.RawItem.{RawItem}
use Rattle.sql_select.specs.declared.piece.RawFrom.{RawFrom}
use Rattle.sql_select.specs.declared.piece.RawCondition.{RawCondition}
use Rattle.sql_select.specs.declared.piece.RawSelect.{RawSelect}

abbrev pub OperandStands : List ℕ → RawOperand → Type 0
OperandStands text (operand.Plain t) = IsSpan text t
OperandStands text (operand.Prefixed p t) = IsSpan text p × IsSpan text t
OperandStands text (operand.Value t) = IsSpan text t

abbrev pub AliasStands : List ℕ → Alias → Type 0
AliasStands text alias.Missing = Unit {0}
AliasStands text (alias.Alone t) = IsSpan text t
AliasStands text (alias.After t) = IsSpan text t

abbrev pub ItemStands : List ℕ → RawItem → Type 0
ItemStands text item = OperandStands text item.operand × AliasStands text item.alias

abbrev pub FromStands : List ℕ → RawFrom → Type 0
FromStands text from = IsSpan text from.relation × AliasStands text from.alias

abbrev pub ConditionStands : List ℕ → RawCondition → Type 0
ConditionStands text c = OperandStands text c.left × OperandStands text c.right

-- each token of the parts
pub record SelectStands (text : List ℕ) (raw : RawSelect) : Type 0 where
  pub items : AllByRecursion (ItemStands text) raw.items
  pub froms : AllByRecursion (FromStands text) raw.froms
  pub conditions : AllByRecursion (ConditionStands text) raw.conditions
