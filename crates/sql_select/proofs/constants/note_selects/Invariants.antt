use Rattle.std.proofs.Common.{◌≡◌, length}
use Rattle.sql_select.specs.Known.{with_selects}
use Rattle.sql_select.proofs.constants.note_selects.Given as goal

-- those that are left go on from what was seen
abbrev pub invariant-loop-left : goal.invariant-loop-left
invariant-loop-left l = with_selects l.seen.items l.left ≡ with_selects l.fn.seen.items l.selects

abbrev pub decreases-loop-left : goal.decreases-loop-left
decreases-loop-left l = length l.left
