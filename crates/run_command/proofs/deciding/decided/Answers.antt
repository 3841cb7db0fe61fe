-- What the search decides is right.
use Rattle.run_command.proofs.RightDecisions.{decided_right}
use Rattle.run_command.proofs.deciding.decided.Goals as goal

pub returns-in-Ok-clause-decided : goal.returns-in-Ok-clause-decided
returns-in-Ok-clause-decided c = decided_right c.args.schema.now c.args.statement.now c.args.firings c.args.search c.in-Ok.decision c.requires.fits c.in-Ok.ensures
