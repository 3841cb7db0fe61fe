use Rattle.std.proofs.Common.{◌≡◌, ◌++◌}
use Rattle.std.specs.Prelude.{map}
use Rattle.std.specs.Vec.Iter.{into_iter_items}
use Rattle.crawl.specs.Progress.{fact_of}
use Rattle.crawl.proofs.lanes.as_facts.Given as goal

-- the facts so far, and those that are left
abbrev pub invariant-loop-rel : goal.invariant-loop-rel
invariant-loop-rel l = record {
  parts : l.yielded ++ into_iter_items l.rel-iterator ≡ l.fn.received.items;
  facts : l.facts.items ≡ map fact_of l.yielded;
}
