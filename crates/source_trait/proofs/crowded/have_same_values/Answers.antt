use Rattle.std.proofs.Common.{◌≡◌, ◌∙◌, ◌<◌, [], get_or, length, slice_get, sym, unwrap_or, arith}
use Rattle.std.specs.Cmp.Lexicographic.{same_text}
use Rattle.lists.proofs.Booleans.{denied_false}
use Rattle.source_trait.proofs.Crowding.{values_more}
use Rattle.source_trait.proofs.crowded.have_same_values.Goals as goal

pub loop-position-preserved : goal.loop-position-preserved
loop-position-preserved c =
    let row = c.args.row.now in
    let other = c.args.other.now in
    let p = get_or c.args.positions.now c.loop-position.position-index 0 in
    let below : c.loop-position.position-index < length c.args.positions.now = omega arith in
    let same : unwrap_or (slice_get row p) [] ≡ unwrap_or (slice_get other p) [] = sym c.value_at.ensures ∙ same_text _ _ (denied_false _ c.if-ne.ensures) ∙ c.value_at-in-loop-position.ensures in
    values_more c.args.positions.now row other c.loop-position.position-index below same c.loop-position.invariant
