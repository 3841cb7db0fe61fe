use Rattle.std.proofs.Common.{◌≡◌, length}
use Rattle.sql_select.specs.Known.{with_items}
use Rattle.sql_select.proofs.constants.note_items.Given as goal

-- those that are left go on from what was seen
abbrev pub invariant-loop-left : goal.invariant-loop-left
invariant-loop-left l = with_items l.seen.items l.left ≡ with_items l.fn.seen.items l.items

abbrev pub decreases-loop-left : goal.decreases-loop-left
decreases-loop-left l = length l.left
