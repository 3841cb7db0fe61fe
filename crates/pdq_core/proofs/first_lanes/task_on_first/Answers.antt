-- The first lanes stay in their order, and those behind as they were.
use Rattle.std.proofs.Common.{◌∙◌, sym, ap, length, take, drop}
use Rattle.pdq_core.proofs.FirstLanes.{lent_stay}
use Rattle.pdq_core.proofs.first_lanes.task_on_first.Goals as goal

pub returns-clause-lanes : goal.returns-clause-lanes
returns-clause-lanes g c =
    let lanes = c.args.lanes.now in
    let parts = c.first_and_behind-used in
    lent_stay g.S.Source.seen c.args.workers lanes.len lanes.items parts.result.0.now parts.result.1.now c.carry_out.new.lanes
    (parts.ensures.first ∙ ap (take c.args.workers) c.as_mut_slice.ensures.value)
    (parts.ensures.behind ∙ ap (drop c.args.workers) c.as_mut_slice.ensures.value)
    (sym c.as_mut_slice.ensures.len ∙ ap length c.as_mut_slice.ensures.value) c.carry_out.ensures.lanes
