use Rattle.std.proofs.Common.{◌≡◌, ◌+◌, length}
use Rattle.source_trait.specs.Lanes.{names_of, place_from}
use Rattle.source_trait.proofs.lanes.place.Given as goal

abbrev pub invariant-loop-left : goal.invariant-loop-left
invariant-loop-left g l = (l.number + length l.left ≡ length l.kinds) × (place_from 0 l.name (names_of l.kinds) ≡ place_from l.number l.name (names_of l.left))

abbrev pub decreases-loop-left : goal.decreases-loop-left
decreases-loop-left g l = length l.left
