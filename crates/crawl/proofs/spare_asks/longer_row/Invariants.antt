use Rattle.std.proofs.Common.{◌≡◌, take}
use Rattle.crawl.proofs.spare_asks.longer_row.Given as goal

-- the values so far
abbrev pub invariant-loop-known : goal.invariant-loop-known
invariant-loop-known l = l.values.items ≡ take l.known-index l.known-items
