use Rattle.std.proofs.Common.{◌≡◌, take}
use Rattle.std.specs.Prelude.{Contains}
use Rattle.crawl.specs.Finding.{Finds}
use Rattle.crawl.proofs.found.FoundValues.take_row.Given as goal

-- the values so far were taken and copied
abbrev pub invariant-loop-column : goal.invariant-loop-column
invariant-loop-column l = record {
  finds : Finds l.shared (Contains (take l.column l.row)) l.fn.self.list.items l.self.list.items;
  copy : l.copy.items ≡ take l.column l.row;
}
