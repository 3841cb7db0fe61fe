use Rattle.std.proofs.Common.{◌≡◌, length}
use Rattle.pdq.specs.Lanes.{AreLanes}
use Rattle.pdq.specs.AnySource.{seen_of}
use Rattle.world_source.specs.contracts.source.WorldSourceSource.TheImpl.{ghosts as generator}
use Rattle.pdq.proofs.lanes.lanes_over.Given as goal

abbrev pub invariant-loop-folder : goal.invariant-loop-folder
invariant-loop-folder g l = record {
  count : length l.lanes.items ≡ length l.yielded;
  lanes : AreLanes (seen_of g.A.Source.seen generator.seen) l.lanes.items;
}
