-- The outcome of each decision.
use Rattle.std.proofs.Common.{refl}
use Rattle.run_command.proofs.deciding.outcome.Goals as goal

pub returns-in-Plan : goal.returns-in-Plan
returns-in-Plan c = rw c.in-Plan.is refl

pub returns-in-NoPlan : goal.returns-in-NoPlan
returns-in-NoPlan c = rw c.in-NoPlan.is refl

pub returns-in-Undecided : goal.returns-in-Undecided
returns-in-Undecided c = rw c.in-Undecided.is refl
