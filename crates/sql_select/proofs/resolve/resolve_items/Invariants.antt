use Rattle.std.proofs.Common.{◌≡◌, ◌++◌, length}
use Rattle.std.specs.Prelude.{None}
use Rattle.sql_select.specs.Resolving.{meant_items, column_fault, item_operands}
use Rattle.sql_select.proofs.resolve.resolve_items.Given as goal

-- the items that were passed, and those that are left
abbrev pub invariant-loop-left : goal.invariant-loop-left
invariant-loop-left l = record {
  done : l.list ++ meant_items l.relations l.rels l.froms l.left ≡ meant_items l.relations l.rels l.froms l.items;
  faults : column_fault l.relations l.rels l.froms l.fault (item_operands l.left) ≡ column_fault l.relations l.rels l.froms None (item_operands l.items);
}

abbrev pub decreases-loop-left : goal.decreases-loop-left
decreases-loop-left l = length l.left
