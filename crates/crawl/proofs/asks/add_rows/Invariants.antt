use Rattle.std.proofs.Common.{◌≡◌, ◌-◌, ◌++◌, length, map}
use Rattle.crawl_rounds.specs.Rows.{rows_of}
use Rattle.crawl.specs.Pieces.{block_with, left_in}
use Rattle.crawl.proofs.asks.add_rows.Given as goal

-- the requests so far, and those that are left of the class
abbrev pub invariant-loop-begin : goal.invariant-loop-begin
invariant-loop-begin l = record {
  class : l.cursor.class ≡ l.fn.cursor.class;
  parts : l.asks.list.items ++ left_in (map (block_with l.kind (l.rel, l.inputs) l.all l.fresh) (rows_of l.first l.all l.count)) l.cursor.row l.cursor.value
      ≡ l.fn.asks.list.items ++ left_in (map (block_with l.kind (l.rel, l.inputs) l.all l.fresh) (rows_of l.first l.all l.count)) l.fn.cursor.row l.fn.cursor.value;
}

abbrev pub decreases-loop-begin : goal.decreases-loop-begin
decreases-loop-begin l = length (rows_of l.first l.all l.count) - l.cursor.row
