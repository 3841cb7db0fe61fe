use Rattle.std.proofs.Common.{◌∙◌, length, get_or, ap, arith}
use Rattle.std.proofs.lemmas.Option.{slice_get-get_or}
use Rattle.lists.proofs.Members.{contains_got}
use Rattle.middleware.proofs.Attached.{placed_later, order_take, order_break}
use Rattle.middleware.proofs.attach.attach_all.Goals as goal

pub attach_one-requires-clause-placed : goal.attach_one-requires-clause-placed
attach_one-requires-clause-placed g c κs within =
    placed_later g.S.Source.seen c.args.schema.now _ (get_or c.args.rels.now c.loop-rel.rel-index 0) c.args.lane.now.kinds.items c.loop-rel.lane.kinds.items c.loop-rel.invariant.attached
    (c.requires.placed (get_or c.args.rels.now c.loop-rel.rel-index 0) (contains_got c.args.rels.now c.loop-rel.rel-index _ (slice_get-get_or c.args.rels.now c.loop-rel.rel-index 0 (omega arith))))

pub returns-in-Err-clause-idle : goal.returns-in-Err-clause-idle
returns-in-Err-clause-idle g c = λ none. let long = ap length none in absurd (omega (arith, long))

pub returns-in-Err-clause-breaks : goal.returns-in-Err-clause-breaks
returns-in-Err-clause-breaks g c =
    order_break g.S.Source.seen c.args.schema.now c.args.rels.now c.loop-rel.rel-index (omega arith) c.in-Err.fault c.args.lane.now.kinds.items c.loop-rel.lane.kinds.items c.attach_one.new.lane.kinds.items
    c.loop-rel.invariant.attached c.in-Err.ensures.attaches

pub loop-rel-preserved : goal.loop-rel-preserved
loop-rel-preserved g c = record {
  attached = order_take g.S.Source.seen c.args.schema.now c.args.rels.now c.loop-rel.rel-index (omega arith) c.args.lane.now.kinds.items c.loop-rel.lane.kinds.items c.attach_one.new.lane.kinds.items
      c.loop-rel.invariant.attached c.in-Ok.ensures.attaches;
  stopped = c.attach_one.ensures.stopped ∙ c.loop-rel.invariant.stopped;
  idle = λ none. let long = ap length none in absurd (omega (arith, long));
}
