use Rattle.std.proofs.Common.{Ok, ap}
use Rattle.proof_search.proofs.proving.fire_all.Goals as goal

pub fire_copies-requires-clause-exposed : goal.fire_copies-requires-clause-exposed
fire_copies-requires-clause-exposed c = c.in_ok-expose_all.ensures.quiet (ap Ok c.if-not-branch-2.false)
