use Rattle.std.proofs.Common.{rules, ◌≡◌, ◌∙◌, ◌++◌, ◌∷◌, [], ◌<◌, ℕ, ap, length, slice_index_or}
use Rattle.lists.proofs.Members.{contains_got}
use Rattle.std.proofs.lemmas.Option.{slice_get-get_or}
use Rattle.connected_match.proofs.Nexting.{kept_next}
use Rattle.connected_match.proofs.walk.kept_row.Goals as goal

pub bounds-vals-place : goal.bounds-vals-place
bounds-vals-place c =
    let place : ℕ = slice_index_or c.args.kept.now c.loop-place.place-index 0 in
    rw c.as_slice-vals.ensures (c.requires place (contains_got c.args.kept.now c.loop-place.place-index place (slice_get-get_or c.args.kept.now c.loop-place.place-index 0 c.loop-place-test.true)))

pub offset_bounds-vals-place : goal.offset_bounds-vals-place
offset_bounds-vals-place c =
    let place : ℕ = slice_index_or c.args.kept.now c.loop-place.place-index 0 in
    let below : slice_index_or c.args.kept.now c.loop-place.place-index 0 < length c.as_slice-vals.result.now =
    rw c.as_slice-vals.ensures (c.requires place (contains_got c.args.kept.now c.loop-place.place-index place (slice_get-get_or c.args.kept.now c.loop-place.place-index 0 c.loop-place-test.true))) in
    search (rules, below)

pub loop-place-preserved : goal.loop-place-preserved
loop-place-preserved c =
    let place : ℕ = slice_index_or c.args.kept.now c.loop-place.place-index 0 in
    let is : c.index-vals-place.result ≡ slice_index_or c.args.found.now.vals place c.index-vals-place.result = rw c.as_slice-vals.ensures at c.index-vals-place.is in
    kept_next c.args.found.now.vals c.loop-place.row.items c.push.new.self.items c.args.kept.now c.loop-place.place-index c.index-vals-place.result c.loop-place-test.true
    (c.requires place (contains_got c.args.kept.now c.loop-place.place-index place (slice_get-get_or c.args.kept.now c.loop-place.place-index 0 c.loop-place-test.true)))
    is c.loop-place.invariant (c.in_ok-push.ensures.items ∙ ap (λ v. c.loop-place.row.items ++ v ∷ []) c.in_ok-copy.ensures)
