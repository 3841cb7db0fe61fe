use Rattle.std.proofs.Common.{◌≡◌, ◌+◌, All, map, replicate, vec_len, vec_capacity}
use Rattle.lane_pool.specs.Core.{idle}
use Rattle.lane_pool.specs.Fields.{lane_of, IsRoomy}
use Rattle.lane_pool.proofs.draws.Draws.new.Given as goal

abbrev pub invariant-loop : goal.invariant-loop
invariant-loop l = record {
  idle : map lane_of l.all.items ≡ replicate l.counter idle;
  roomy : All (IsRoomy (l.fn.items + l.fn.lanes)) l.all.items;
  len : vec_len l.all ≡ l.counter;
  room : vec_capacity l.all ≡ l.fn.lanes;
}
