-- A select whose names are looked up.
use Rattle.std.specs.Prelude.{◌≡◌, ℕ, List, [], map, Option, Some, None, Result, Ok, Err}
use Rattle.meaning.specs.declared.types.Relation.{Relation}
use Rattle.meaning.specs.declared.types.Select.{Select}
use Rattle.sql_select.specs.declared.named.NamedItem.{NamedItem}
use Rattle.sql_select.specs.declared.named.NamedSelect.{NamedSelect}
use Rattle.sql_select.specs.declared.named.NameFault.{NameFault}
use Rattle.sql_select.specs.declared.named.NameFault.TheVariants as name
use Rattle.sql_select.specs.declared.fault.SqlFault.{SqlFault}
use Rattle.sql_select.specs.declared.fault.SqlFault.TheVariants as fault
use Rattle.sql_select.specs.declared.piece.RawSelect.{RawSelect}
use Rattle.sql_select.specs.Names.{IsNameFault}
use Rattle.sql_select.specs.Statements.{IsFirstNameFault}
use Rattle.sql_select.specs.Resolving.{from_fault, rels_of, column_fault, item_operands, condition_operands, meant_items, meant_conditions}

abbrev pub item_names : List NamedItem → List (List ℕ)
item_names items = map (λ item. item.name) items

abbrev pub sql_fault : NameFault → SqlFault
sql_fault (name.Unknown offset) = fault.UnknownName offset
sql_fault (name.Ambiguous offset) = fault.Ambiguous offset

abbrev pub columns_fault : List Relation → List ℕ → NamedSelect → Option NameFault
columns_fault relations rels parts =
    column_fault relations rels parts.froms (column_fault relations rels parts.froms None (item_operands parts.items)) (condition_operands parts.conditions)

abbrev pub meant_select : List Relation → List ℕ → NamedSelect → Select
meant_select relations rels parts = record {
  froms = rels;
  conditions = meant_conditions relations rels parts.froms parts.conditions;
  items = meant_items relations rels parts.froms parts.items;
  names = item_names parts.items;
}

abbrev pub select_unless : Option NameFault → Select → Result Select NameFault
select_unless None select = Ok select
select_unless (Some f) select = Err f

abbrev pub after_froms : Option NameFault → List Relation → NamedSelect → Result Select NameFault
after_froms (Some f) relations parts = Err f
after_froms None relations parts =
    select_unless (columns_fault relations (rels_of relations parts.froms) parts) (meant_select relations (rels_of relations parts.froms) parts)

-- the select, or the first fault of its names: FROM items first, then columns
abbrev pub resolved : List Relation → NamedSelect → Result Select NameFault
resolved relations parts = after_froms (from_fault relations [] None parts.froms) relations parts

abbrev pub Resolves : Result Select SqlFault → Result Select NameFault → Type 0
Resolves (Ok select) r = r ≡ Ok select
Resolves (Err fault.NoMemory) r = Unit {0}
Resolves (Err (fault.UnknownName offset)) r = r ≡ Err (name.Unknown offset)
Resolves (Err (fault.Ambiguous offset)) r = r ≡ Err (name.Ambiguous offset)
Resolves (Err _) r = ⊥

-- The fault is that of the names of the first of these selects that has one, or memory ran out.
abbrev pub IsNamesFault : List Relation → List ℕ → List RawSelect → SqlFault → Type 0
IsNamesFault relations bytes raws fault.NoMemory = Unit {0}
IsNamesFault relations bytes raws (fault.UnknownName o) = IsFirstNameFault relations bytes raws (name.Unknown o)
IsNamesFault relations bytes raws (fault.Ambiguous o) = IsFirstNameFault relations bytes raws (name.Ambiguous o)
IsNamesFault relations bytes raws _ = ⊥

-- The fault is one of names, or memory ran out.
abbrev pub IsNamingFault : List Relation → NamedSelect → SqlFault → Type 0
IsNamingFault relations parts fault.NoMemory = Unit {0}
IsNamingFault relations parts (fault.UnknownName offset) = IsNameFault relations parts (name.Unknown offset)
IsNamingFault relations parts (fault.Ambiguous offset) = IsNameFault relations parts (name.Ambiguous offset)
IsNamingFault relations parts _ = ⊥
