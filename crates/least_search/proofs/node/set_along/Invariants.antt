use Rattle.std.proofs.Common.{◌≡◌, drop}
use Rattle.least_search.specs.Walks.{no_facts}
use Rattle.least_search.specs.Ways.{set_after}
use Rattle.least_search.specs.Packing.{packed}
use Rattle.least_search.proofs.node.set_along.Given as goal

-- the rest of the path leads on from the marks so far
abbrev pub invariant-loop-step : goal.invariant-loop-step
invariant-loop-step l = record {
  set : set_after l.made.set.items (drop l.step-index l.path) ≡ set_after (no_facts l.facts) l.path;
  key : l.made.key ≡ packed l.made.set.items;
}
