use Rattle.std.proofs.Common.{◌≡◌, ◌∙◌, ◌++◌, length, map, take, drop, ap, sym, subst, vec_items}
use Rattle.lane_pool.specs.Lanes.{LanesEnded}
use Rattle.lane_pool.proofs.Closing.{refilled, lanes_ended}
use Rattle.lane_pool.proofs.parallel.run_lanes.Goals as goal

pub returns-clause-ended : goal.returns-clause-ended
returns-clause-ended g c =
    let did = g.W.Worker.did in
    let items = c.args.items.now in
    let ws = c.args.workers.now in
    let us = c.spread.new.workers in
    let sheets = c.spread.new.sheets in
    let old = c.args.sheets in
    let same : take old.len (sheets ++ drop (length sheets) old.items) ≡ sheets =
    refilled old.len sheets old.items (c.spread.auto.sheets ∙ c.as_mut_slice.ensures.len) (sym (ap length c.as_mut_slice.ensures.value) ∙ c.as_mut_slice.ensures.len) in
    subst (λ ss. LanesEnded did items (map vec_items ss) ws us) (sym same)
    (lanes_ended did items c.in_ok-table.seat.me.0.parts (map vec_items sheets) ws us c.spread.new.seat.id c.spread.new.seat.me _ _ (ap (λ m. m.0.parts) c.in_ok-table.ensures.4) c.spread.ensures.ran
    c.requires.sizes.2 c.requires.sizes.1 c.close_with.ensures.values.2)
