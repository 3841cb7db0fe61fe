use Rattle.std.proofs.Common.{ℕ}
use Rattle.std.specs.Prelude.{Contains, slice_get}
use Rattle.middleware.specs.Branches.{IsInput}
use Rattle.middleware.proofs.parts.known_places.Given as goal

abbrev pub invariant-loop-position : goal.invariant-loop-position
invariant-loop-position l = (p : ℕ) → Contains l.known.items p → IsInput l.columns (slice_get l.places p)
