use Rattle.std.proofs.Common.{◌≡◌, ◌<◌, length, map, All, vec_len, vec_items}
use Rattle.lane_pool.specs.Places.{put_at, flat}
use Rattle.lane_pool.proofs.gather.put_sheets.Given as goal

abbrev pub decreases-loop-sheet : goal.decreases-loop-sheet
decreases-loop-sheet g l = vec_len l.sheets

abbrev pub invariant-loop-sheet : goal.invariant-loop-sheet
invariant-loop-sheet g l = record {
  same : put_at l.places (flat (map vec_items l.sheets.items)) ≡ put_at l.initial.places (flat (map vec_items l.initial.sheets.items));
  inside : All (λ d. d.0 < length l.places) (flat (map vec_items l.sheets.items));
}
