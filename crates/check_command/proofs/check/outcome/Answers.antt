-- The outcome of each verdict.
use Rattle.std.proofs.Common.{refl}
use Rattle.check_command.proofs.check.outcome.Goals as goal

pub returns-in-Equivalent : goal.returns-in-Equivalent
returns-in-Equivalent c = rw c.in-Equivalent.is refl

pub returns-in-Illegal : goal.returns-in-Illegal
returns-in-Illegal c = rw c.in-Illegal.is refl

pub returns-in-Loses : goal.returns-in-Loses
returns-in-Loses c = rw c.in-Loses.is refl

pub returns-in-Adds : goal.returns-in-Adds
returns-in-Adds c = rw c.in-Adds.is refl

pub returns-in-Undecided : goal.returns-in-Undecided
returns-in-Undecided c = rw c.in-Undecided.is refl
