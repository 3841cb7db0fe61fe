use Rattle.std.proofs.Common.{◌≡◌, ◌≤◌, ◌-◌, take, length, vec_len}
use Rattle.plan_check.proofs.chase.copied_facts.Given as goal

-- the first facts are there
abbrev pub invariant-loop-fact : goal.invariant-loop-fact
invariant-loop-fact l = record {
  first : l.facts.items ≡ take (vec_len l.facts) l.store;
  few : vec_len l.facts ≤ length l.store;
}

abbrev pub decreases-loop-fact : goal.decreases-loop-fact
decreases-loop-fact l = length l.store - vec_len l.facts
