use Rattle.std.proofs.Common.{◌++◌, ◌∙◌, ap, sym, subst, arith, map, vec_items}
use Rattle.std.proofs.lemmas.List.{map-append}
use Rattle.lane_pool.specs.Lanes.{Ran}
use Rattle.lane_pool.proofs.Moves.{splits, joins}
use Rattle.lane_pool.proofs.Parts.{ran_joined}
use Rattle.lane_pool.proofs.spread.+spread.Goals as goal

pub spread-split_seat-other-requires : goal.spread-split_seat-other-requires
spread-split_seat-other-requires g t c =
    (c.requires.table.0, omega (arith, c.requires.table.1), splits c.args.seat.now.id c.args.seat.now.me.0 (let a = c.requires.begin.1.2 in let b = c.if-workers-eq1.false in omega arith))

pub spread-join_seat-requires : goal.spread-join_seat-requires
spread-join_seat-requires g t c =
    let s = c.both_halves.new.seat in
    let o = c.both_halves.new.other in
    let cut = c.split_seat-other.ensures in
    let both = c.both_halves.ensures in
    (both.table.0 ∙ (cut.0 ∙ c.requires.table.0), both.table.1 ∙ (cut.3 ∙ c.requires.table.0), ap (λ m. m.1) both.high.1, omega (arith, c.requires.table.1), joins s.id o.id s.me.0 o.me.0)

pub spread-returns-clause-ran : goal.spread-returns-clause-ran
spread-returns-clause-ran g t c =
    let did = g.W.Worker.did in
    let items = c.args.items.now in
    let cut = c.split_seat-other.ensures in
    let n = c.both_halves.new in
    let p = c.args.seat.now.me.0.parts in
    let low = subst (λ q. Ran did items q (map vec_items n.low_sheets) c.split_at_mut-low.result.0.now n.low n.seat.me) (ap (λ m. m.0.parts) cut.2) c.both_halves.ensures.low in
    let high = subst (λ q. Ran did items q (map vec_items n.high_sheets) c.split_at_mut-low.result.1.now n.high n.other.me) (ap (λ m. m.0.parts) cut.4) c.both_halves.ensures.high in
    subst (λ rs. Ran did items p rs c.args.workers.now (n.low ++ n.high) c.join_seat.new.seat.me) (sym (map-append vec_items n.low_sheets n.high_sheets))
    (ran_joined did items p (map vec_items n.low_sheets) (map vec_items n.high_sheets) c.split_at_mut-low.result.0.now c.split_at_mut-low.result.1.now n.low n.high c.args.workers.now n.seat.me n.other.me c.join_seat.new.seat.me low high c.split_at_mut-low.ensures.value c.join_seat.ensures.2)
