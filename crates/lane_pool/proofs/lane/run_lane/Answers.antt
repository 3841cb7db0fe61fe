use Rattle.std.proofs.Common.{◌+◌, ◌∙◌, ◌∷◌, [], ℕ, List, map, length, subst, sym, ap, arith, length-append}
use Rattle.lane_pool.specs.Seats.{view}
use Rattle.lane_pool.specs.Lanes.{Steps}
use Rattle.lane_pool.proofs.Moves.{draws_as, drawn_me}
use Rattle.lane_pool.proofs.Steps.{steps_snoc, slice_get_at, firsts_snoc}
use Rattle.lane_pool.proofs.lane.run_lane.Goals as goal

pub fetch_add-number-requires : goal.fetch_add-number-requires
fetch_add-number-requires g c =
    let is = c.loop.invariant in
    (is.table ∙ c.requires.table.0, omega (arith, c.requires.table.1), draws_as _ c.loop.seat.id c.loop.seat.me _ _ is.me c.requires.seat.2)

pub loop-preserved : goal.loop-preserved
loop-preserved g c =
    let is = c.loop.invariant in
    let k = c.fetch_add-number.result in
    let a = c.work-answer.result in
    let sheets = c.push_reserved.ensures.items in
    let step = c.fetch_add-number.ensures in
    let firsts = λ (ds : List (ℕ × g.row.A.Denot)). map (λ (d : ℕ × g.row.A.Denot). d.0) ds in
    record {
      table = step.0 ∙ is.table;
      me = drawn_me _ _ k _ _ is.me step.2 ∙ ap (λ l. (view (l ∷ []) c.args.seat.now.me.0.parts, [])) (sym (firsts_snoc c.loop.sheet.items k a) ∙ ap firsts (sym sheets));
      steps = subst (λ ds. Steps g.W.Worker.did c.args.items.now ds c.args.worker.now c.work-answer.new.self) (sym sheets)
          (steps_snoc g.W.Worker.did c.args.items.now c.loop.sheet.items c.args.worker.now c.loop.worker c.work-answer.new.self k c.index-items-at.result a is.steps
          (slice_get_at c.args.items.now k c.index-items-at.result c.if-number-items.false c.index-items-at.is) c.work-answer.ensures.did);
      len = ap length sheets ∙ (length-append c.loop.sheet.items ((k, a) ∷ []) ∙ ap (λ n. n + 1) is.len);
      vec = c.push_reserved.ensures.len ∙ ap (λ n. n + 1) is.vec;
      capacity = c.push_reserved.ensures.capacity ∙ is.capacity;
      ready = λ i d h. c.work-answer.ensures.ready _ (is.ready i d h);
    }
