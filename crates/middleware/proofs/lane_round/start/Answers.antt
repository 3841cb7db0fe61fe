use Rattle.std.proofs.Common.{◌∙◌, sym, arith}
use Rattle.middleware.proofs.LaneStarts.{none_started, one_started, all_started}
use Rattle.middleware.proofs.lane_round.start.Goals as goal

pub loop-lane-init : goal.loop-lane-init
loop-lane-init g c = sym (none_started c.args.lanes.now)

pub loop-lane-preserved : goal.loop-lane-preserved
loop-lane-preserved g c =
    one_started c.loop-lane.lane-index c.args.lanes.now c.loop-lane.lanes c.lane-item.result c.loop-lane.invariant (omega arith)

pub returns : goal.returns
returns g c = c.loop-lane.invariant ∙ all_started c.loop-lane.lane-index c.args.lanes.now (omega arith)
