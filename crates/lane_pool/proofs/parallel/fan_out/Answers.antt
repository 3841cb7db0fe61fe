use Rattle.std.proofs.Common.{◌≡◌, ◌∙◌, length, map, ap, vec_items}
use Rattle.std.proofs.lemmas.List.{length-replicate}
use Rattle.lane_pool.proofs.FansOut.{inside_places, full_places, fanned}
use Rattle.lane_pool.proofs.parallel.fan_out.Goals as goal

pub in_order-requires-clause-inside : goal.in_order-requires-clause-inside
in_order-requires-clause-inside g c =
    let places = c.in_ok-places.places.items in
    let len : length places ≡ length c.args.items.now = ap length c.in_ok-places.ensures ∙ length-replicate _ _ in
    let sheets = map vec_items c.in_ok-sheets-2.sheets.items in
    inside_places g.W.Worker.did c.args.items.now sheets c.args.workers.now c.run_lanes.new.workers c.in_ok-sheets-2.ensures.ended c.requires.sizes.0 places len

pub in_order-requires-clause-full : goal.in_order-requires-clause-full
in_order-requires-clause-full g c =
    let places = c.in_ok-places.places.items in
    let len : length places ≡ length c.args.items.now = ap length c.in_ok-places.ensures ∙ length-replicate _ _ in
    let sheets = map vec_items c.in_ok-sheets-2.sheets.items in
    full_places g.W.Worker.did c.args.items.now sheets c.args.workers.now c.run_lanes.new.workers c.in_ok-sheets-2.ensures.ended c.requires.sizes.0 places len

pub returns-clause-fans_out : goal.returns-clause-fans_out
returns-clause-fans_out g c =
    let places = c.in_ok-places.places.items in
    let len : length places ≡ length c.args.items.now = ap length c.in_ok-places.ensures ∙ length-replicate _ _ in
    let sheets = map vec_items c.in_ok-sheets-2.sheets.items in
    fanned g.W.Worker.did c.args.items.now sheets c.args.workers.now c.run_lanes.new.workers c.in_ok-sheets-2.ensures.ended c.requires.sizes.0 places len c.in_order.result.items c.in_order.ensures
