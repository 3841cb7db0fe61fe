use Rattle.std.proofs.Common.{◌≡◌, [], take}
use Rattle.middleware.specs.Attaching.{AttachesInOrder}
use Rattle.middleware.proofs.attach.attach_all.Given as goal

abbrev pub invariant-loop-rel : goal.invariant-loop-rel
invariant-loop-rel g l = record {
  attached : AttachesInOrder g.S.Source.seen l.schema (take l.rel-index l.rels) l.fn.lane.kinds.items l.lane.kinds.items;
  stopped : l.lane.stopped ≡ l.fn.lane.stopped;
  idle : l.rels ≡ [] → l.lane ≡ l.fn.lane;
}
