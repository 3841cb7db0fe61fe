use Rattle.std.proofs.Common.{◌≡◌, ◌+◌, length}
use Rattle.sql_select.specs.Widths.{other_from}
use Rattle.sql_select.proofs.widths.other_from.Given as goal

-- what is left decides, counted on from those that were passed
abbrev pub invariant-loop-left : goal.invariant-loop-left
invariant-loop-left l = record { rest : other_from l.number l.width l.left ≡ other_from 1 l.width l.raws; count : l.number + length l.left ≡ 1 + length l.raws }

abbrev pub decreases-loop-left : goal.decreases-loop-left
decreases-loop-left l = length l.left
