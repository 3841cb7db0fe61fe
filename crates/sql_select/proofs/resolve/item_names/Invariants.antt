use Rattle.std.proofs.Common.{◌≡◌, ◌++◌, length}
use Rattle.sql_select.specs.Select.{item_names}
use Rattle.sql_select.proofs.resolve.item_names.Given as goal

-- the names of the items that were passed, and of those that are left
abbrev pub invariant-loop-left : goal.invariant-loop-left
invariant-loop-left l = l.names ++ item_names l.left ≡ item_names l.items

abbrev pub decreases-loop-left : goal.decreases-loop-left
decreases-loop-left l = length l.left
