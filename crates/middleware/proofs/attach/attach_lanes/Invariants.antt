use Rattle.std.proofs.Common.{◌≡◌}
use Rattle.middleware.specs.Needs.{listed}
use Rattle.middleware.proofs.LanesAttached.{AttachedTo}
use Rattle.middleware.proofs.attach.attach_lanes.Given as goal

abbrev pub invariant-loop-lane : goal.invariant-loop-lane
invariant-loop-lane g l = record {
  rels : l.rels ≡ listed l.first l.others l.lane-index;
  attached : AttachedTo g.S.Source.seen l.schema (listed l.first l.others) l.lane-index l.fn.lanes l.lanes;
}
