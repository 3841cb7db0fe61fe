use Rattle.std.proofs.Common.{◌≡◌, ◌-◌, take, length}
use Rattle.proof_search.proofs.refuting.facts_of.Given as goal

-- the first facts
abbrev pub invariant-loop-fact : goal.invariant-loop-fact
invariant-loop-fact l = l.copies.items ≡ take (length l.copies.items) l.facts

-- the facts that are left
abbrev pub decreases-loop-fact : goal.decreases-loop-fact
decreases-loop-fact l = length l.facts - length l.copies.items
