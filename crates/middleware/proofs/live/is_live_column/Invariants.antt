use Rattle.std.proofs.Common.{◌≡◌, length}
use Rattle.middleware.specs.Live.{is_live}
use Rattle.middleware.proofs.live.is_live_column.Given as goal

-- what is left of the steps decides
abbrev pub invariant-loop-left : goal.invariant-loop-left
invariant-loop-left l = is_live l.steps l.outs l.column ≡ is_live l.left l.outs l.column

abbrev pub decreases-loop-left : goal.decreases-loop-left
decreases-loop-left l = length l.left
