use Rattle.std.proofs.Common.{◌≡◌, ◌-◌, take, length}
use Rattle.exposure_search.proofs.aiming.base_facts.Given as goal

-- the first facts
abbrev pub invariant-loop-fact : goal.invariant-loop-fact
invariant-loop-fact l = l.facts.items ≡ take (length l.facts.items) l.proof.end.base

-- the facts that are left
abbrev pub decreases-loop-fact : goal.decreases-loop-fact
decreases-loop-fact l = length l.proof.end.base - length l.facts.items
