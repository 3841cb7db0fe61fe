-- What became of the verdict, by where the function returns.
use Rattle.std.proofs.Common.{refl}
use Rattle.command_io.proofs.Delivering.{result_stop}
use Rattle.check_command.specs.Ends.JudgeEnds.{no_verdict, cut, judged}
use Rattle.check_command.proofs.check.show.Goals as goal

pub returns-in-Err-clause-ends : goal.returns-in-Err-clause-ends
returns-in-Err-clause-ends g c = rw (← c.outputs.view_is) (no_verdict c.tell.result (record {
  given = c.in-Err.stop;
  cause = c.in-Err.ensures.memory;
  tells = rw c.as_slice-relations.ensures at c.tell.ensures.tells;
}) refl)

pub returns-in-Ok-print-clause-ends : goal.returns-in-Ok-print-clause-ends
returns-in-Ok-print-clause-ends g c =
    rw (← c.outputs.view_is, c.outcome.ensures)
    (judged c.in-Ok.both.0 c.in-Ok.both.1 c.in-Ok.ensures.verdict c.in-Ok.ensures.text (rw c.as_slice.ensures at c.in-Ok-print.ensures.whole) refl)

pub returns-clause-ends : goal.returns-clause-ends
returns-clause-ends g c =
    rw (← c.outputs.view_is) (cut c.in-Ok.both.0 c.in-Ok.both.1 c.tell-in-Err-print.result c.in-Ok.ensures.verdict c.in-Ok.ensures.text (rw c.as_slice.ensures at c.in-Err-print.ensures.part) (record {
      given = c.in-Err-print.stop;
      cause = result_stop _ c.in-Err-print.stop c.in-Err-print.ensures.cause;
      tells = rw c.as_slice-relations.ensures at c.tell-in-Err-print.ensures.tells;
    }))
