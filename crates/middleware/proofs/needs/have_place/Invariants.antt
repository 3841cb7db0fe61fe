use Rattle.std.proofs.Common.{◌≡◌, true}
use Rattle.middleware.specs.Sources.{needs_at}
use Rattle.middleware.proofs.Needing.{PlacedTo}
use Rattle.middleware.proofs.needs.have_place.Given as goal

abbrev pub invariant-loop-lane : goal.invariant-loop-lane
invariant-loop-lane g l = record {
  needs : l.needs ≡ needs_at l.by_others l.lane-index;
  each : PlacedTo l.lanes l.lines l.rel (λ place. needs_at l.by_others place ≡ true) l.lane-index;
}
