use Rattle.std.proofs.Common.{◌≡◌, length}
use Rattle.middleware.specs.Live.{is_named}
use Rattle.middleware.proofs.live.is_named_column.Given as goal

-- what is left of the places decides
abbrev pub invariant-loop-left : goal.invariant-loop-left
invariant-loop-left l = is_named l.places l.column ≡ is_named l.left l.column

abbrev pub decreases-loop-left : goal.decreases-loop-left
decreases-loop-left l = length l.left
