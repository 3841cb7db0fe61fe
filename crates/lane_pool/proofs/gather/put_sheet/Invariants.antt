use Rattle.std.proofs.Common.{◌≡◌, ◌<◌, length, All, vec_len}
use Rattle.lane_pool.specs.Places.{put_at}
use Rattle.lane_pool.proofs.gather.put_sheet.Given as goal

abbrev pub decreases-loop-at : goal.decreases-loop-at
decreases-loop-at g l = vec_len l.sheet

abbrev pub invariant-loop-at : goal.invariant-loop-at
invariant-loop-at g l = record {
  same : put_at l.places l.sheet.items ≡ put_at l.initial.places l.initial.sheet.items;
  inside : All (λ d. d.0 < length l.places) l.sheet.items;
}
