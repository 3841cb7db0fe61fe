-- A plan is carried out as the settings say.
use Rattle.run_command.proofs.run.deliver_as.Goals as goal

pub returns-then-settings-clause-delivers : goal.returns-then-settings-clause-delivers
returns-then-settings-clause-delivers g c = let is = c.if-settings.true in rw is c.deliver_verified.ensures.delivers

pub returns-else-settings-clause-delivers : goal.returns-else-settings-clause-delivers
returns-else-settings-clause-delivers g c = let is = c.if-settings.false in rw is c.deliver.ensures.delivers
