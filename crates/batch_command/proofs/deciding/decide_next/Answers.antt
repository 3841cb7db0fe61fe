-- There is no memory for one more plan.
use Rattle.std.proofs.Common.{refl}
use Rattle.command_io.specs.declared.stop.Stop.TheVariants as stop
use Rattle.batch_command.specs.Deciding.EndsAt.{no_decision}
use Rattle.batch_command.proofs.deciding.decide_next.Goals as goal

pub returns-in-Err-clause-ended : goal.returns-in-Err-clause-ended
returns-in-Err-clause-ended g c = no_decision c.tell.result (record {
  given = stop.Memory;
  cause = refl;
  tells = c.tell.ensures.tells;
})
