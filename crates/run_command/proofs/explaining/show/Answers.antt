-- What became of the decision, by where the function returns.
use Rattle.std.proofs.Common.{refl}
use Rattle.command_io.proofs.Delivering.{result_stop}
use Rattle.run_command.specs.Deciding.{outcome_of}
use Rattle.run_command.specs.Explained.DecisionEnds.{no_decision, cut, shown}
use Rattle.run_command.proofs.RightDecisions.{shown as shows}
use Rattle.run_command.proofs.explaining.show.Goals as goal

pub returns-in-Err-clause-ends : goal.returns-in-Err-clause-ends
returns-in-Err-clause-ends g c = rw (← c.outputs.view_is) (no_decision c.tell.result (record {
  given = c.in-Err.stop;
  cause = c.in-Err.ensures.memory;
  tells = rw c.as_slice-relations.ensures at c.tell.ensures.tells;
}) refl)

pub returns-in-Ok-write_decision-clause-ends : goal.returns-in-Ok-write_decision-clause-ends
returns-in-Ok-write_decision-clause-ends g c =
    rw (← c.outputs.view_is, c.outcome.ensures) (shown c.in-Ok-write_decision.ensures.whole.text (outcome_of c.in-Ok.decision)
    (shows c.args.schema.now c.args.statement.now c.args.firings c.args.search c.in-Ok.decision c.in-Ok-write_decision.ensures.whole.text c.requires.fits
    c.in-Ok.ensures.decided c.in-Ok-write_decision.ensures.whole.is c.in-Ok-write_decision.ensures.whole.utf8)
    c.in-Ok-write_decision.ensures.whole.took refl)

pub returns-clause-ends : goal.returns-clause-ends
returns-clause-ends g c = rw (← c.outputs.view_is) (cut c.in-Ok.decision c.tell-in-Err-write_decision.result c.in-Ok.ensures.decided c.in-Err-write_decision.ensures.part (record {
  given = c.in-Err-write_decision.stop;
  cause = result_stop _ c.in-Err-write_decision.stop c.in-Err-write_decision.ensures.cause;
  tells = rw c.as_slice-relations.ensures at c.tell-in-Err-write_decision.ensures.tells;
}))
