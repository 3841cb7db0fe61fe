use Rattle.std.proofs.Common.{rules}
use Rattle.source_trait.specs.Asking.{CanAsk}
use Rattle.source_trait.proofs.LaneSteps.{ready_at, ready_none, StepsAt-stays}
use Rattle.source_trait.proofs.lanes.call_on.Goals as goal

pub call_at-requires-clause-ready : goal.call_at-requires-clause-ready
call_at-requires-clause-ready g c = ready_at c.args.kind.now c.args.lane.now.kinds.items (λ s. CanAsk ((g.S.Source.seen s).attached c.args.rel) c.args.positions.now c.args.values.now) c.in-Some.at (search rules) c.requires.ready

pub unreachable-requires : goal.unreachable-requires
unreachable-requires g c = absurd (ready_none c.args.kind.now c.args.lane.now.kinds.items _ (search rules) c.requires.ready)

pub returns-clause-stays : goal.returns-clause-stays
returns-clause-stays g c = StepsAt-stays _ _ _ g.S.Source.seen c.in-Some.at (λ s t h. h.faults) c.call_at.ensures
