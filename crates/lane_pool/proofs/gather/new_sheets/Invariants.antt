use Rattle.std.proofs.Common.{◌≡◌, length, All, vec_len, vec_capacity}
use Rattle.lane_pool.specs.Lanes.{IsBlank}
use Rattle.lane_pool.proofs.gather.new_sheets.Given as goal

abbrev pub invariant-loop : goal.invariant-loop
invariant-loop g l = record {
  items : length l.sheets.items ≡ l.counter;
  len : vec_len l.sheets ≡ l.counter;
  room : vec_capacity l.sheets ≡ l.fn.lanes;
  each : All (IsBlank l.count) l.sheets.items;
}
