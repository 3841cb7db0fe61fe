-- The names of a select looked up one after another, with the first of their faults.
use Rattle.std.specs.Prelude.{◌≤◌, ◌+◌, ◌++◌, ℕ, List, [], ◌∷◌, Contains, Option, Some, None, nat_eq, nat_le, length, map, slice_get, if◌then◌else◌}
use Rattle.std.specs.List.{flat_map}
use Rattle.std.specs.Cmp.Lexicographic.{pointwise}
use Rattle.meaning.specs.declared.types.Relation.{Relation}
use Rattle.meaning.specs.declared.types.Operand.{Operand}
use Rattle.meaning.specs.declared.types.Operand.TheVariants.{Column, Literal}
use Rattle.meaning.specs.declared.types.Condition.{Condition}
use Rattle.access_schema.specs.Names.{relation_names}
use Rattle.access_schema.specs.Lists.{is_among}
use Rattle.sql_select.specs.declared.named.NamedOperand.{NamedOperand}
use Rattle.sql_select.specs.declared.named.NamedOperand.TheVariants as named
use Rattle.sql_select.specs.declared.named.NamedItem.{NamedItem}
use Rattle.sql_select.specs.declared.named.NamedFrom.{NamedFrom}
use Rattle.sql_select.specs.declared.named.NamedCondition.{NamedCondition}
use Rattle.sql_select.specs.declared.named.NameFault.{NameFault}
use Rattle.sql_select.specs.declared.named.NameFault.TheVariants as fault
use Rattle.sql_select.specs.declared.columns.Found.{Found}
use Rattle.sql_select.specs.declared.columns.Found.TheVariants as found
use Rattle.sql_select.specs.declared.resolve.Meant.{Meant}
use Rattle.sql_select.specs.declared.resolve.Meant.TheVariants as meant
use Rattle.sql_select.specs.Names.{from_names, rank_of}

-- no relation has more columns than 64
abbrev pub AreNarrow : List Relation → Type 0
AreNarrow relations = (relation : Relation) → Contains relations relation → length relation.columns ≤ 64

-- the place of the first of these names, counted on from n
abbrev pub place_from : ℕ → List (List ℕ) → List ℕ → Option ℕ
place_from n [] name = None
place_from n (x ∷ xs) name = if pointwise nat_eq x name then Some n else place_from (n + 1) xs name

-- of a new fault and the first one so far, the one that is answered
abbrev pub earlier : Option NameFault → Option NameFault → Option NameFault
earlier None first = first
earlier (Some new) None = Some new
earlier (Some new) (Some first) = if nat_le (rank_of first) (rank_of new) then Some first else Some new

-- ---- FROM items

abbrev pub unless_there : Option ℕ → ℕ → Option NameFault
unless_there None offset = Some (fault.Unknown offset)
unless_there (Some place) offset = None

-- the relation of a FROM item is not there
abbrev pub unknown_relation : List Relation → NamedFrom → Option NameFault
unknown_relation relations from = unless_there (place_from 0 (relation_names relations) from.relation.text) from.relation.offset

-- the name of a FROM item was used by one of those before it
abbrev pub used_name : List NamedFrom → NamedFrom → Option NameFault
used_name before from = if is_among (from_names before) from.item.text then Some (fault.Ambiguous from.item.offset) else None

abbrev pub from_fault : List Relation → List NamedFrom → Option NameFault → List NamedFrom → Option NameFault
from_fault relations before first [] = first
from_fault relations before first (from ∷ froms) =
    from_fault relations (before ++ from ∷ []) (earlier (used_name before from) (earlier (unknown_relation relations from) first)) froms

abbrev pub with_place : Option ℕ → List ℕ → List ℕ
with_place None rels = rels
with_place (Some rel) rels = rel ∷ rels

-- the relations that are there
abbrev pub rels_of : List Relation → List NamedFrom → List ℕ
rels_of relations [] = []
rels_of relations (from ∷ froms) = with_place (place_from 0 (relation_names relations) from.relation.text) (rels_of relations froms)

-- ---- columns

abbrev pub place_in : Option Relation → List ℕ → Option ℕ
place_in None name = None
place_in (Some relation) name = place_from 0 relation.columns name

abbrev pub place_at : List Relation → Option ℕ → List ℕ → Option ℕ
place_at relations None name = None
place_at relations (Some rel) name = place_in (slice_get relations rel) name

abbrev pub joined : Found → ℕ → Option ℕ → Found
joined before from None = before
joined found.Nothing from (Some column) = found.One from column
joined (found.One f c) from (Some column) = found.Many
joined found.Many from (Some column) = found.Many

abbrev pub found_in : List Relation → ℕ → Found → List ℕ → List ℕ → Found
found_in relations from before [] name = before
found_in relations from before (rel ∷ rels) name = found_in relations (from + 1) (joined before from (place_in (slice_get relations rel) name)) rels name

abbrev pub plain_meant : ℕ → Found → Meant
plain_meant offset found.Nothing = meant.Fault (fault.Unknown offset)
plain_meant offset (found.One from column) = meant.Operand (Column from column)
plain_meant offset found.Many = meant.Fault (fault.Ambiguous offset)

abbrev pub column_meant : ℕ → ℕ → Option ℕ → Meant
column_meant offset from None = meant.Fault (fault.Unknown offset)
column_meant offset from (Some column) = meant.Operand (Column from column)

abbrev pub prefixed_meant : List Relation → List ℕ → ℕ → List ℕ → ℕ → Option ℕ → Meant
prefixed_meant relations rels prefix name offset None = meant.Fault (fault.Unknown prefix)
prefixed_meant relations rels prefix name offset (Some from) = column_meant offset from (place_at relations (slice_get rels from) name)

-- what an operand means, or its fault
abbrev pub meant_of : List Relation → List ℕ → List NamedFrom → NamedOperand → Meant
meant_of relations rels froms (named.Literal value) = meant.Operand (Literal value)
meant_of relations rels froms (named.Plain name) = plain_meant name.offset (found_in relations 0 found.Nothing rels name.text)
meant_of relations rels froms (named.Prefixed prefix name) =
    prefixed_meant relations rels prefix.offset name.text name.offset (place_from 0 (from_names froms) prefix.text)

abbrev pub fault_in : Meant → Option NameFault
fault_in (meant.Operand o) = None
fault_in (meant.Fault f) = Some f

-- the first fault of the operands and of those before
abbrev pub column_fault : List Relation → List ℕ → List NamedFrom → Option NameFault → List NamedOperand → Option NameFault
column_fault relations rels froms first [] = first
column_fault relations rels froms first (o ∷ os) = column_fault relations rels froms (earlier (fault_in (meant_of relations rels froms o)) first) os

abbrev pub item_operands : List NamedItem → List NamedOperand
item_operands items = map (λ item. item.operand) items

abbrev pub condition_operands : List NamedCondition → List NamedOperand
condition_operands conditions = flat_map (λ c. c.left ∷ c.right ∷ []) conditions

-- the operands that have no fault
abbrev pub with_meant : Meant → List Operand → List Operand
with_meant (meant.Operand o) rest = o ∷ rest
with_meant (meant.Fault f) rest = rest

abbrev pub meant_items : List Relation → List ℕ → List NamedFrom → List NamedItem → List Operand
meant_items relations rels froms [] = []
meant_items relations rels froms (item ∷ items) = with_meant (meant_of relations rels froms item.operand) (meant_items relations rels froms items)

abbrev pub with_both : Meant → Meant → List Condition → List Condition
with_both (meant.Operand a) (meant.Operand b) rest = record { left = a; right = b } ∷ rest
with_both (meant.Operand a) (meant.Fault f) rest = rest
with_both (meant.Fault f) m rest = rest

abbrev pub meant_conditions : List Relation → List ℕ → List NamedFrom → List NamedCondition → List Condition
meant_conditions relations rels froms [] = []
meant_conditions relations rels froms (c ∷ cs) =
    with_both (meant_of relations rels froms c.left) (meant_of relations rels froms c.right) (meant_conditions relations rels froms cs)
