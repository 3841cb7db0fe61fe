use Rattle.std.proofs.Common.{◌≤◌, length, subst, sym, arith}
use Rattle.meaning.specs.Triggers.{terms_bound}
use Rattle.lists.proofs.Members.{contains_got}
use Rattle.lists.proofs.Places.{got_indexed}
use Rattle.connected_match.proofs.Firsts.{firsts_next}
use Rattle.connected_match.proofs.Bounds.{member_bound}
use Rattle.connected_match.proofs.chain.first_places.Goals as goal

pub note_first-requires : goal.note_first-requires
note_first-requires c =
    let low = member_bound c.args.atoms.now c.index-atoms-place.result (contains_got c.args.atoms.now c.loop-place.place c.index-atoms-place.result (got_indexed c.args.atoms.now c.loop-place.place c.index-atoms-place.result c.loop-place-test.true c.index-atoms-place.is)) in
    let wide = c.loop-place.invariant.width_is in
    subst (λ l. terms_bound l ≤ length c.loop-place.firsts.items) (sym c.as_slice.ensures) (omega (arith, low, c.requires, wide))

pub loop-place-preserved : goal.loop-place-preserved
loop-place-preserved c =
    firsts_next c.args.atoms.now c.loop-place.place c.index-atoms-place.result c.as_slice.result.now (length c.args.atoms.now) c.args.width c.loop-place.firsts.items c.note_first.new.firsts.items c.loop-place-test.true c.index-atoms-place.is
    c.as_slice.ensures c.loop-place.invariant c.note_first.ensures
