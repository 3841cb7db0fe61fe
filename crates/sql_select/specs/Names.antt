-- What the names of a select stand for over the relations of a schema, and the faults of names.
use Rattle.std.specs.Prelude.{◌≡◌, ◌≢◌, ◌⊎◌, ◌≤◌, ◌+◌, ◌*◌, ℕ, List, [], ◌∷◌, ◌++◌, Contains, map, slice_get, Some}
use Rattle.std.specs.List.{AllZip, flat_map}
use Rattle.meaning.specs.declared.types.Relation.{Relation}
use Rattle.meaning.specs.declared.types.Operand.{Operand}
use Rattle.meaning.specs.declared.types.Operand.TheVariants.{Column, Literal}
use Rattle.meaning.specs.declared.types.Condition.{Condition}
use Rattle.meaning.specs.declared.types.Select.{Select}
use Rattle.access_schema.specs.Names.{relation_names, AllDiffer}
use Rattle.sql_select.specs.declared.named.NamedOperand.{NamedOperand}
use Rattle.sql_select.specs.declared.named.NamedOperand.TheVariants as named
use Rattle.sql_select.specs.declared.named.NamedItem.{NamedItem}
use Rattle.sql_select.specs.declared.named.NamedFrom.{NamedFrom}
use Rattle.sql_select.specs.declared.named.NamedCondition.{NamedCondition}
use Rattle.sql_select.specs.declared.named.NamedSelect.{NamedSelect}
use Rattle.sql_select.specs.declared.named.NameFault.{NameFault}
use Rattle.sql_select.specs.declared.named.NameFault.TheVariants as fault

-- ---- what names stand for

-- the names of the FROM items
abbrev pub from_names : List NamedFrom → List (List ℕ)
from_names froms = map (λ from. from.item.text) froms

-- The FROM items are these relations, by number, and no two items have one name.
pub record AreFroms (relations : List Relation) (froms : List NamedFrom) (rels : List ℕ) : Type 0 where
  pub relations_are : AllZip (λ from rel. slice_get (relation_names relations) rel ≡ Some from.relation.text) froms rels
  pub differ : AllDiffer (from_names froms)

-- The relation of the FROM item has the column of this name at this place.
abbrev pub IsColumnAt : List Relation → List ℕ → ℕ → ℕ → List ℕ → Type 0
IsColumnAt relations rels from column name =
    (rel : ℕ) × (relation : Relation) × (slice_get rels from ≡ Some rel) × (slice_get relations rel ≡ Some relation) × (slice_get relation.columns column ≡ Some name)

-- The relation of the FROM item has a column of this name.
abbrev pub HasColumn : List Relation → List ℕ → List ℕ → ℕ → Type 0
HasColumn relations rels name from =
    (rel : ℕ) × (relation : Relation) × (slice_get rels from ≡ Some rel) × (slice_get relations rel ≡ Some relation) × Contains relation.columns name

-- A column with a prefix belongs to the FROM item of that name, and one without to the only item that has it.
abbrev pub IsMeant : List Relation → List ℕ → List NamedFrom → NamedOperand → Operand → Type 0
IsMeant relations rels froms (named.Literal value) (Literal text) = text ≡ value
IsMeant relations rels froms (named.Plain name) (Column from column) =
    IsColumnAt relations rels from column name.text × ((other : ℕ) → HasColumn relations rels name.text other → other ≡ from)
IsMeant relations rels froms (named.Prefixed prefix name) (Column from column) =
    (slice_get (from_names froms) from ≡ Some prefix.text) × IsColumnAt relations rels from column name.text
IsMeant relations rels froms _ _ = ⊥

-- The select is what the named parts stand for.
pub record IsMeaning (relations : List Relation) (parts : NamedSelect) (select : Select) : Type 0 where
  pub froms : AreFroms relations parts.froms select.froms
  pub items : AllZip (λ (item : NamedItem) (o : Operand). IsMeant relations select.froms parts.froms item.operand o) parts.items select.items
  pub conditions : AllZip (λ (c : NamedCondition) (d : Condition). IsMeant relations select.froms parts.froms c.left d.left × IsMeant relations select.froms parts.froms c.right d.right) parts.conditions select.conditions
  pub names : select.names ≡ map (λ item. item.name) parts.items

-- ---- faults

-- A relation is not there, or the name of a FROM item was used by an earlier item.
abbrev pub IsFromFault : List Relation → List NamedFrom → NameFault → Type 0
IsFromFault relations froms (fault.Unknown offset) =
    (from : NamedFrom) × Contains froms from × (from.relation.offset ≡ offset) × (Contains (relation_names relations) from.relation.text → ⊥)
IsFromFault relations froms (fault.Ambiguous offset) =
    (before : List NamedFrom) × (from : NamedFrom) × (after : List NamedFrom) × (froms ≡ before ++ from ∷ after) × (from.item.offset ≡ offset)
    × Contains (from_names before) from.item.text

-- A name without a prefix is a column of no FROM item, a prefix is no item's name, or its item has no such column.
abbrev pub IsUnknown : List Relation → List ℕ → List NamedFrom → NamedOperand → ℕ → Type 0
IsUnknown relations rels froms (named.Literal value) offset = ⊥
IsUnknown relations rels froms (named.Plain name) offset = (name.offset ≡ offset) × ((from : ℕ) → HasColumn relations rels name.text from → ⊥)
IsUnknown relations rels froms (named.Prefixed prefix name) offset =
    ((prefix.offset ≡ offset) × (Contains (from_names froms) prefix.text → ⊥))
    ⊎ ((name.offset ≡ offset) × (from : ℕ) × (slice_get (from_names froms) from ≡ Some prefix.text) × (HasColumn relations rels name.text from → ⊥))

-- A name without a prefix is a column of two FROM items.
abbrev pub IsAmbiguous : List Relation → List ℕ → NamedOperand → ℕ → Type 0
IsAmbiguous relations rels (named.Plain name) offset =
    (name.offset ≡ offset) × (first : ℕ) × (second : ℕ) × (first ≢ second) × HasColumn relations rels name.text first × HasColumn relations rels name.text second
IsAmbiguous relations rels _ offset = ⊥

-- the operands of a select
abbrev pub operands_of : NamedSelect → List NamedOperand
operands_of parts = map (λ item. item.operand) parts.items ++ flat_map (λ c. c.left ∷ c.right ∷ []) parts.conditions

-- An operand has the fault.
abbrev pub IsColumnFault : List Relation → List ℕ → NamedSelect → NameFault → Type 0
IsColumnFault relations rels parts (fault.Unknown offset) = (o : NamedOperand) × Contains (operands_of parts) o × IsUnknown relations rels parts.froms o offset
IsColumnFault relations rels parts (fault.Ambiguous offset) = (o : NamedOperand) × Contains (operands_of parts) o × IsAmbiguous relations rels o offset

-- faults in the order in which they are answered: by offset, and an unknown name first where two have one offset
abbrev pub rank_of : NameFault → ℕ
rank_of (fault.Unknown offset) = 2 * offset
rank_of (fault.Ambiguous offset) = 2 * offset + 1

-- The first of these faults.
abbrev pub IsFirst : (NameFault → Type 0) → NameFault → Type 0
IsFirst IsOne f = IsOne f × ((other : NameFault) → IsOne other → rank_of f ≤ rank_of other)

-- The first fault of the FROM items, and where they have none, the first of the columns.
abbrev pub IsNameFault : List Relation → NamedSelect → NameFault → Type 0
IsNameFault relations parts f =
    IsFirst (IsFromFault relations parts.froms) f
    ⊎ ((rels : List ℕ) × AreFroms relations parts.froms rels × IsFirst (IsColumnFault relations rels parts) f)
