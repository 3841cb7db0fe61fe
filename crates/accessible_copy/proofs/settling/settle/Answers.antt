use Rattle.accessible_copy.proofs.settling.settle.Goals as goal

pub returns-then-copies-clause-met : goal.returns-then-copies-clause-met
returns-then-copies-clause-met c = rw c.if-copies.true c.settle_copies.ensures.met

pub returns-else-copies-clause-met : goal.returns-else-copies-clause-met
returns-else-copies-clause-met c = rw c.if-copies.false c.settle_base.ensures.met
