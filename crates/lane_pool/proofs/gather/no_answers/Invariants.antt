use Rattle.std.proofs.Common.{◌≡◌, replicate, None, vec_len, vec_capacity}
use Rattle.lane_pool.proofs.gather.no_answers.Given as goal

abbrev pub invariant-loop : goal.invariant-loop
invariant-loop g l = record {
  items : l.places.items ≡ replicate l.counter None;
  len : vec_len l.places ≡ l.counter;
  room : vec_capacity l.places ≡ l.count;
}
