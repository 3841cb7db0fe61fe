-- The usage text was written whole, or not.
use Rattle.std.proofs.Common.{refl}
use Rattle.command_io.proofs.Delivering.{result_stop}
use Rattle.pdq_core.specs.Help.HelpEnds.{printed, cut}
use Rattle.pdq_core.proofs.help.print_usage.Goals as goal

pub returns-in-Ok-clause-ends : goal.returns-in-Ok-clause-ends
returns-in-Ok-clause-ends g c = rw (← c.outputs.view_is) (printed (rw c.usage_text.ensures at c.in-Ok.ensures.whole) refl)

pub returns-in-Err-clause-ends : goal.returns-in-Err-clause-ends
returns-in-Err-clause-ends g c = rw (← c.outputs.view_is) (cut c.tell.result (rw c.usage_text.ensures at c.in-Err.ensures.part) (record {
  given = c.in-Err.stop;
  cause = result_stop _ c.in-Err.stop c.in-Err.ensures.cause;
  tells = c.tell.ensures.tells;
}))
