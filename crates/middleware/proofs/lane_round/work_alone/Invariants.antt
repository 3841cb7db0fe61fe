use Rattle.std.proofs.Common.{◌≡◌, All, length, vec_len, vec_capacity}
use Rattle.lane_pool.specs.Work.{WorkedBy}
use Rattle.middleware.proofs.LaneNumbers.{first_numbers}
use Rattle.middleware.proofs.lane_round.work_alone.Given as goal

abbrev pub invariant-loop-item : goal.invariant-loop-item
invariant-loop-item g l = record {
  worked : WorkedBy g.W.Worker.did l.items l.answers.items (first_numbers l.item-index) l.initial.worker l.worker;
  len : length l.answers.items ≡ l.item-index;
  vec : vec_len l.answers ≡ l.item-index;
  capacity : vec_capacity l.answers ≡ vec_capacity l.initial.answers;
  ready : All (g.W.Worker.ready l.worker) l.items;
}
