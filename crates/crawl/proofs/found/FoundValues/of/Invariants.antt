use Rattle.std.proofs.Common.{◌≡◌, take}
use Rattle.crawl.proofs.found.FoundValues.of.Given as goal

-- the values so far
abbrev pub invariant-loop-value : goal.invariant-loop-value
invariant-loop-value l = l.list.items ≡ take l.value-index l.values
