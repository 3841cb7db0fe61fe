use Rattle.std.proofs.Common.{◌≡◌, [], ◌∷◌, All, map, length, vec_len, vec_capacity}
use Rattle.lane_pool.specs.Seats.{view}
use Rattle.lane_pool.specs.Lanes.{Steps}
use Rattle.lane_pool.proofs.lane.run_lane.Given as goal

abbrev pub invariant-loop : goal.invariant-loop
invariant-loop g l = record {
  table : l.seat.table_id ≡ l.initial.seat.table_id;
  me : l.seat.me ≡ (view (map (λ d. d.0) l.sheet.items ∷ []) l.initial.seat.me.0.parts, []);
  steps : Steps g.W.Worker.did l.items l.sheet.items l.initial.worker l.worker;
  len : length l.sheet.items ≡ l.counter;
  vec : vec_len l.sheet ≡ l.counter;
  capacity : vec_capacity l.sheet ≡ vec_capacity l.initial.sheet;
  ready : All (g.W.Worker.ready l.worker) l.items;
}
