use Rattle.std.proofs.Common.{take}
use Rattle.source_trait.specs.Lanes.{KindsStay}
use Rattle.rule_rows.specs.Asking.{AsksInOrder}
use Rattle.rule_rows.proofs.ask.ask_all.Given as goal

abbrev pub invariant-loop-rel : goal.invariant-loop-rel
invariant-loop-rel g l = record {
  asked : AsksInOrder g.S.Source.seen l.schema (take l.rel-index l.rels) l.facts l.fn.lane.kinds.items l.lane.kinds.items;
  stays : KindsStay g.S.Source.seen l.fn.lane.kinds.items l.lane.kinds.items;
}
