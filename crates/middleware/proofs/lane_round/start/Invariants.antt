use Rattle.std.proofs.Common.{◌≡◌}
use Rattle.middleware.proofs.LaneStarts.{started_to}
use Rattle.middleware.proofs.lane_round.start.Given as goal

abbrev pub invariant-loop-lane : goal.invariant-loop-lane
invariant-loop-lane g l = l.lanes ≡ started_to l.lane-index l.fn.lanes
