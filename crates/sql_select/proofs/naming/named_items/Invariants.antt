use Rattle.std.proofs.Common.{◌≡◌, ◌+◌, ◌++◌, length}
use Rattle.std.specs.List.{AllByRecursion}
use Rattle.sql_select.specs.Spanning.{ItemStands}
use Rattle.sql_select.specs.Naming.{named_items}
use Rattle.sql_select.proofs.naming.named_items.Given as goal

-- those that are done, and those that are left
abbrev pub invariant-loop-left : goal.invariant-loop-left
invariant-loop-left l = record { few : length l.list + length l.left ≡ length l.items; stand : AllByRecursion (ItemStands l.text) l.left; done : l.list ++ named_items l.text (length l.list + 1) l.left ≡ named_items l.text 1 l.items }

abbrev pub decreases-loop-left : goal.decreases-loop-left
decreases-loop-left l = length l.left
