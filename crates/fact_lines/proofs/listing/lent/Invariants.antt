use Rattle.std.proofs.Common.{◌≡◌, map, take}
use Rattle.fact_lines.specs.Lent.{lent_fact}
use Rattle.fact_lines.proofs.listing.lent.Given as goal

-- the listing is the facts so far
abbrev pub invariant-loop-fact : goal.invariant-loop-fact
invariant-loop-fact l = map lent_fact l.listing.items ≡ take l.fact-index l.facts
