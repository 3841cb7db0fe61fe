use Rattle.std.proofs.Common.{◌≡◌, ◌+◌, sum, length}
use Rattle.source_trait.specs.Holding.{sizes_of}
use Rattle.source_trait.proofs.holding.have_room.Given as goal

-- the room is what the relations before those that are left leave
abbrev pub invariant-loop-left : goal.invariant-loop-left
invariant-loop-left l = l.room + sum (sizes_of l.list) ≡ l.limit + sum (sizes_of l.left)

abbrev pub decreases-loop-left : goal.decreases-loop-left
decreases-loop-left l = length l.left
