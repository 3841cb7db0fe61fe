use Rattle.std.proofs.Common.{ℕ, List, refl, subst, get_or, arith}
use Rattle.std.specs.Prelude.{Contains}
use Rattle.std.proofs.lemmas.Result.{err_from_is_err_and}
use Rattle.middleware.specs.Needs.{listed, AttachesLane}
use Rattle.middleware.specs.Sources.{AttachBreaks}
use Rattle.middleware.proofs.LanesAttached.{listed_next, none_attached, next_attached, all_attached, attach_refused, here_still}
use Rattle.middleware.proofs.attach.attach_lanes.Goals as goal

pub loop-lane-init : goal.loop-lane-init
loop-lane-init g c = record {
  rels = refl;
  attached = none_attached g.S.Source.seen c.args.schema.now (listed c.args.first.now c.args.others.now) c.args.lanes.now;
}

pub attach_all-requires-clause-placed : goal.attach_all-requires-clause-placed
attach_all-requires-clause-placed g c κs within = λ rel among.
    c.requires.placed c.loop-lane.lane-index (get_or c.loop-lane.lanes c.loop-lane.lane-index c.lane-item.result)
    (here_still g.S.Source.seen c.args.schema.now (listed c.args.first.now c.args.others.now) c.loop-lane.lane-index c.args.lanes.now c.loop-lane.lanes
    c.lane-item.result c.loop-lane.invariant.attached (omega arith))
    rel (subst (λ (rels : List ℕ). Contains rels rel) c.loop-lane.invariant.rels among)

pub returns-in_err-attach_all-clause-breaks : goal.returns-in_err-attach_all-clause-breaks
returns-in_err-attach_all-clause-breaks g c =
    let told = err_from_is_err_and c.from_residual.result c.from_residual.ensures.1 in
    rw (told.1, told.2) (attach_refused g.S.Source.seen c.args.schema.now (listed c.args.first.now c.args.others.now) c.loop-lane.lane-index c.args.lanes.now c.loop-lane.lanes
    c.lane-item.result c.attach_all.new.lane c.in_err-attach_all.field-0.0.rel c.in_err-attach_all.field-0.0.fault c.loop-lane.invariant.attached (omega arith)
    (subst (λ (rels : List ℕ). AttachBreaks g.S.Source.seen c.args.schema.now rels c.in_err-attach_all.field-0.0.rel c.in_err-attach_all.field-0.0.fault
    (get_or c.loop-lane.lanes c.loop-lane.lane-index c.lane-item.result).kinds.items c.attach_all.new.lane.kinds.items)
    c.loop-lane.invariant.rels c.in_err-attach_all.ensures.breaks) c.attach_all.ensures.stopped)

pub loop-lane-preserved : goal.loop-lane-preserved
loop-lane-preserved g c = record {
  rels = listed_next c.args.first.now c.args.others.now c.loop-lane.lane-index;
  attached = next_attached g.S.Source.seen c.args.schema.now (listed c.args.first.now c.args.others.now) c.loop-lane.lane-index c.args.lanes.now
      c.loop-lane.lanes c.lane-item.result c.attach_all.new.lane c.loop-lane.invariant.attached (omega arith)
      (subst (λ (rels : List ℕ). AttachesLane g.S.Source.seen c.args.schema.now rels
      (get_or c.loop-lane.lanes c.loop-lane.lane-index c.lane-item.result) c.attach_all.new.lane) c.loop-lane.invariant.rels
      (record { order = c.in_ok-attach_all.ensures.attached; stopped = c.attach_all.ensures.stopped; idle = c.attach_all.ensures.idle }));
}

pub returns-clause-attached : goal.returns-clause-attached
returns-clause-attached g c =
    all_attached g.S.Source.seen c.args.schema.now (listed c.args.first.now c.args.others.now) c.loop-lane.lane-index c.args.lanes.now c.loop-lane.lanes
    c.loop-lane.invariant.attached (omega arith)
