use Rattle.std.proofs.Common.{◌≡◌, ◌+◌, ◌≤◌, ◌++◌, length, map, reverse, All, Some, vec_len, vec_capacity}
use Rattle.std.specs.Prelude.{IsSome}
use Rattle.lane_pool.proofs.gather.take_all.Given as goal

abbrev pub decreases-loop-place : goal.decreases-loop-place
decreases-loop-place g l = vec_len l.places

abbrev pub invariant-loop-place : goal.invariant-loop-place
invariant-loop-place g l = record {
  same : l.places.items ++ map Some (reverse l.answers.items) ≡ l.initial.places.items;
  full : All (λ p. IsSome p) l.places.items;
  room : length l.places.items + vec_len l.answers ≤ vec_capacity l.answers;
}
