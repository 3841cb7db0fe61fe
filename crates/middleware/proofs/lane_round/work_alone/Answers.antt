use Rattle.std.proofs.Common.{◌≡◌, ◌+◌, ◌∷◌, ◌∙◌, [], List, length, length-append, sym, ap, subst, arith}
use Rattle.lists.proofs.Places.{got_indexed}
use Rattle.lane_pool.specs.Work.{WorkedBy}
use Rattle.middleware.proofs.Alone.{works_on, works_all}
use Rattle.middleware.proofs.LaneNumbers.{first_numbers}
use Rattle.middleware.proofs.lane_round.work_alone.Goals as goal

pub loop-item-preserved : goal.loop-item-preserved
loop-item-preserved g c =
    let did = g.W.Worker.did in
    let is = c.loop-item.invariant in
    let k = c.loop-item.item-index in
    let pushed = c.push_reserved.ensures in
    record {
      worked = subst (λ (l : List g.row.W-Answer.Denot). WorkedBy did c.args.items.now l (first_numbers (k + 1)) c.args.worker.now c.work.new.self) (sym {A = List g.row.W-Answer.Denot} pushed.items)
          (works_on did c.args.items.now c.loop-item.answers.items c.args.worker.now c.loop-item.worker c.work.new.self k c.item-item.result c.work.result
          is.len is.worked (got_indexed c.args.items.now k c.item-item.result c.loop-item-test.true c.item-item.is) c.work.ensures.did);
      len = ap length pushed.items ∙ (length-append c.loop-item.answers.items (c.work.result ∷ []) ∙ ap (λ n. n + 1) is.len);
      vec = pushed.len ∙ ap (λ n. n + 1) is.vec;
      capacity = pushed.capacity ∙ is.capacity;
      ready = λ i d h. c.work.ensures.ready _ (is.ready i d h);
    }

pub returns-clause-asked : goal.returns-clause-asked
returns-clause-asked g c =
    let is = c.loop-item.invariant in
    let all : c.loop-item.item-index ≡ length c.args.items.now = omega arith in
    works_all g.W.Worker.did c.args.items.now c.loop-item.answers.items c.args.worker.now c.loop-item.worker (is.len ∙ all)
    (subst (λ n. WorkedBy g.W.Worker.did c.args.items.now c.loop-item.answers.items (first_numbers n) c.args.worker.now c.loop-item.worker) all is.worked)
