use Rattle.source_trait.proofs.LaneSteps.{StepsAt-stays}
use Rattle.source_trait.proofs.lanes.attach_on.Goals as goal

pub returns-clause-stays : goal.returns-clause-stays
returns-clause-stays g c = StepsAt-stays _ _ _ g.S.Source.seen c.in-Some.at (λ s t h. h.faults) c.attach_at.ensures
