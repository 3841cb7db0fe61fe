use Rattle.std.proofs.Common.{◌≡◌, length}
use Rattle.middleware.specs.Live.{is_shown}
use Rattle.middleware.proofs.live.is_shown_column.Given as goal

-- what is left of the output decides
abbrev pub invariant-loop-left : goal.invariant-loop-left
invariant-loop-left l = is_shown l.outs l.column ≡ is_shown l.left l.column

abbrev pub decreases-loop-left : goal.decreases-loop-left
decreases-loop-left l = length l.left
