use Rattle.std.proofs.Common.{◌≤◌, ◌<◌, ◌+◌, ◌^◌, ◌-◌, length, vec_len}
use Rattle.no_plan_witness.specs.Passing.{AreFreeUpTo}
use Rattle.no_plan_witness.proofs.free_texts.free_texts.Given as goal

-- the texts are the free ones up to the number, and not more than the labels, and the number is small
abbrev pub invariant-loop-alloc : goal.invariant-loop-alloc
invariant-loop-alloc l = record {
  small : l.number < 2 ^ 63;
  free : AreFreeUpTo l.sort l.known l.number l.texts.items;
  few : vec_len l.texts ≤ length l.labels;
}

-- a number is that of a text or of a constant
abbrev pub decreases-loop-alloc : goal.decreases-loop-alloc
decreases-loop-alloc l = length l.labels + vec_len l.constants-inside.sorted - l.number
