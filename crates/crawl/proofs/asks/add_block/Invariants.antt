use Rattle.std.proofs.Common.{◌≡◌, ◌++◌, drop}
use Rattle.crawl.specs.Pieces.{block_with}
use Rattle.crawl.proofs.asks.add_block.Given as goal

-- the requests so far, and those that are left of the block
abbrev pub invariant-loop-number : goal.invariant-loop-number
invariant-loop-number l = l.asks.list.items ++ drop l.number (block_with l.kind (l.rel, l.inputs) l.all l.fresh l.begin)
    ≡ l.initial.asks.list.items ++ drop l.fn.from (block_with l.kind (l.rel, l.inputs) l.all l.fresh l.begin)
