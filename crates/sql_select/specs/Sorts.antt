-- The sorts of the columns that conditions compare: the first condition that is not sorted is the fault.
use Rattle.std.specs.Prelude.{◌≡◌, ◌<◌, ℕ, List, Some, Contains, length, map, slice_get}
use Rattle.std.specs.List.{AllZip}
use Rattle.meaning.specs.declared.types.SchemaParts.{SchemaParts}
use Rattle.meaning.specs.declared.types.Select.{Select}
use Rattle.meaning.specs.Conjunctive.{ConditionIsSorted, SelectIsSorted}
use Rattle.sql_select.specs.declared.fault.SqlFault.{SqlFault}
use Rattle.sql_select.specs.declared.fault.SqlFault.TheVariants as fault
use Rattle.sql_select.specs.declared.piece.RawOperand.{RawOperand}
use Rattle.sql_select.specs.declared.piece.RawOperand.TheVariants as operand
use Rattle.sql_select.specs.declared.piece.RawSelect.{RawSelect}

-- Each of the selects is sorted.
abbrev pub SelectsAreSorted : SchemaParts → List Select → Type 0
SelectsAreSorted schema selects = (select : Select) → Contains selects select → SelectIsSorted schema select

-- The place is that of the first of the members that is not such a one.
pub record IsFirstWithout {X : Type 0} (IsOne : X → Type 0) (members : List X) (place : ℕ) : Type 0 where
  pub member : X
  pub at : slice_get members place ≡ Some member
  pub without : IsOne member → ⊥
  pub before : (k : ℕ) (x : X) → k < place → slice_get members k ≡ Some x → IsOne x

-- where an operand begins: at its first token
abbrev pub operand_start : RawOperand → ℕ
operand_start (operand.Plain name) = name.start
operand_start (operand.Prefixed prefix name) = prefix.start
operand_start (operand.Value value) = value.start

-- where the conditions of a select begin
abbrev pub condition_starts : RawSelect → List ℕ
condition_starts raw = map (λ condition. operand_start condition.left) raw.conditions

-- The first condition that is not sorted, in the first select that has one, begins at the offset.
pub record IsFirstUnsorted (schema : SchemaParts) (raws : List RawSelect) (selects : List Select) (offset : ℕ) : Type 0 where
  pub number : ℕ
  pub in_select : IsFirstWithout (SelectIsSorted schema) selects number
  pub place : ℕ
  pub in_condition :
      IsFirstWithout (ConditionIsSorted schema in_select.member) in_select.member.conditions place
  pub raw : RawSelect
  pub written : slice_get raws number ≡ Some raw
  pub begins : slice_get (condition_starts raw) place ≡ Some offset

-- ---- while the conditions are looked through

-- Each of the selects has as many conditions as it is written with.
abbrev pub HaveAllConditions : List RawSelect → List Select → Type 0
HaveAllConditions raws selects =
    AllZip (λ (raw : RawSelect) (select : Select). length select.conditions ≡ length raw.conditions) raws selects

-- The fault is that of the first condition that is not sorted.
abbrev pub IsSortFault : SchemaParts → List RawSelect → List Select → SqlFault → Type 0
IsSortFault schema raws selects (fault.WrongSort offset) = IsFirstUnsorted schema raws selects offset
IsSortFault schema raws selects _ = ⊥
