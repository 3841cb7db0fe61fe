use Rattle.std.proofs.Common.{◌≡◌, ◌++◌, ◌∙◌, length, map, sym, subst, arith}
use Rattle.std.proofs.lemmas.List.{nil_from_length}
use Rattle.std.proofs.lemmas.Result.{IfOk-weaker}
use Rattle.lane_pool.specs.Work.{FansOut}
use Rattle.source_trait.specs.Works.{Works}
use Rattle.middleware.specs.LaneRounds.{started}
use Rattle.middleware.proofs.Alone.{alone_too}
use Rattle.middleware.proofs.LaneStarts.{idle_too, none_worked, used_ready}
use Rattle.middleware.proofs.lane_round.ask_lanes.Goals as goal

pub returns-then-count-eq0-clause-asked : goal.returns-then-count-eq0-clause-asked
returns-then-count-eq0-clause-asked g c =
    let did = Works g.S.Source.seen in
    let empty : length c.args.asks.now ≡ 0 = omega arith in
    subst (λ us. FansOut did c.args.asks.now c.new.result.items (map started c.args.lanes.now) us) (sym c.start.ensures)
    (none_worked did c.args.asks.now c.new.result.items (map started c.args.lanes.now) (nil_from_length c.args.asks.now empty)
    c.new.ensures.items)

pub fan_out-requires-clause-ready : goal.fan_out-requires-clause-ready
fan_out-requires-clause-ready g c κs within =
    used_ready g.S.Source.seen c.args.asks.now c.args.lanes.now c.split_at_mut-used.result.0.now c.split_at_mut-used.result.1.now
    (sym c.split_at_mut-used.ensures.value ∙ c.start.ensures) c.requires.ready

pub returns-clause-asked : goal.returns-clause-asked
returns-clause-asked g c =
    let did = Works g.S.Source.seen in
    let used = c.split_at_mut-used.result.0.now in
    let idle = c.split_at_mut-used.result.1.now in
    let all : used ++ idle ≡ map started c.args.lanes.now = sym c.split_at_mut-used.ensures.value ∙ c.start.ensures in
    IfOk-weaker c.fan_out.result (λ answers. FansOut did c.args.asks.now answers.items used c.fan_out.new.workers)
    (λ answers. FansOut did c.args.asks.now answers.items (map started c.args.lanes.now) (c.fan_out.new.workers ++ idle))
    (λ answers fanned. subst (λ ws. FansOut did c.args.asks.now answers.items ws (c.fan_out.new.workers ++ idle)) all
    (idle_too did c.args.asks.now answers.items used c.fan_out.new.workers idle fanned)) c.fan_out.ensures.fans_out

pub work_alone-requires-clause-ready : goal.work_alone-requires-clause-ready
work_alone-requires-clause-ready g c κs within =
    used_ready g.S.Source.seen c.args.asks.now c.args.lanes.now c.split_at_mut-used.result.0.now c.split_at_mut-used.result.1.now
    (sym c.split_at_mut-used.ensures.value ∙ c.start.ensures) c.requires.ready 0 c.index-used-0.result (omega arith)

pub returns-then-count-eq1-clause-asked : goal.returns-then-count-eq1-clause-asked
returns-then-count-eq1-clause-asked g c =
    let did = Works g.S.Source.seen in
    let used = c.split_at_mut-used.result.0.now in
    let idle = c.split_at_mut-used.result.1.now in
    IfOk-weaker c.work_alone.result _ _
    (λ answers fanned. alone_too did c.args.asks.now answers.items used idle (map started c.args.lanes.now) c.index-used-0.result
    c.work_alone.new.worker (omega arith) (sym c.split_at_mut-used.ensures.value ∙ c.start.ensures) fanned) c.work_alone.ensures.asked
