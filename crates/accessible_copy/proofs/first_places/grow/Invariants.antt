use Rattle.std.proofs.Common.{◌≡◌, ℕ, ◌+◌, ◌-◌, length}
use Rattle.std.specs.Prelude.{slice_index}
use Rattle.accessible_copy.proofs.first_places.grow.Given as goal

abbrev pub invariant-loop-places : goal.invariant-loop-places
invariant-loop-places l = (k : ℕ) → slice_index l.places.items k ≡ slice_index l.fn.places.items k

abbrev pub decreases-loop-places : goal.decreases-loop-places
decreases-loop-places l = l.index + 1 - length l.places.items
