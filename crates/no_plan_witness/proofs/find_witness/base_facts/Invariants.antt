use Rattle.std.proofs.Common.{◌≡◌, ◌≤◌, ◌-◌, take, length, vec_len}
use Rattle.no_plan_witness.proofs.find_witness.base_facts.Given as goal

-- the first facts are there
abbrev pub invariant-loop-fact : goal.invariant-loop-fact
invariant-loop-fact l = record {
  first : l.facts.items ≡ take (vec_len l.facts) l.proof.end.base;
  few : vec_len l.facts ≤ length l.proof.end.base;
}

abbrev pub decreases-loop-fact : goal.decreases-loop-fact
decreases-loop-fact l = length l.proof.end.base - vec_len l.facts
