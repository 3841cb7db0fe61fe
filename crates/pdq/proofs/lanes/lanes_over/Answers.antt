use Rattle.std.proofs.Common.{◌≡◌, ◌+◌, ◌++◌, ◌∷◌, [], length, arith}
use Rattle.std.proofs.lemmas.List.{length_push}
use Rattle.pdq.proofs.Laning.{one_more}
use Rattle.pdq.proofs.lanes.lanes_over.Goals as goal

pub loop-folder-preserved : goal.loop-folder-preserved
loop-folder-preserved g c = record {
  count =
      let long = c.in_ok-push.ensures.len in
      let before = c.loop-folder.invariant.count in
      let more : length (c.loop-folder.yielded ++ c.in-Some.folder ∷ []) ≡ length c.loop-folder.yielded + 1 = length_push c.loop-folder.yielded c.in-Some.folder in omega arith;
  lanes = rw c.in_ok-push.ensures.items (one_more _ _ _ c.loop-folder.invariant.lanes c.in_ok-lane_of.ensures);
}
