use Rattle.std.proofs.Common.{◌≡◌, ◌-◌, ◌≤◌, ◌++◌, length, map}
use Rattle.crawl_rounds.specs.Lent.{lent_class}
use Rattle.crawl.specs.Pieces.{left_of}
use Rattle.crawl.proofs.asks.add_piece.Given as goal

-- the requests so far, and those that are left of the round
abbrev pub invariant-loop-cursor : goal.invariant-loop-cursor
invariant-loop-cursor l = record {
  parts : l.asks.list.items ++ left_of l.schema l.first l.all l.fresh (map lent_class l.classes) l.cursor
      ≡ l.fn.asks.list.items ++ left_of l.schema l.first l.all l.fresh (map lent_class l.classes) l.fn.cursor;
  later : l.fn.cursor.class ≤ l.cursor.class;
}

abbrev pub decreases-loop-cursor : goal.decreases-loop-cursor
decreases-loop-cursor l = length l.classes - l.cursor.class
