use Rattle.std.proofs.Common.{ap}
use Rattle.std.specs.Prelude.{Ok}
use Rattle.exposure_search.proofs.wanted.mark_bodies.Goals as goal

pub returns-then-not-branch-clause-closed : goal.returns-then-not-branch-clause-closed
returns-then-not-branch-clause-closed c = c.in_ok-mark_round.ensures.closed (ap (λ b. Ok b) c.if-not-branch.true)
