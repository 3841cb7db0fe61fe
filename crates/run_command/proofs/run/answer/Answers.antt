-- Nothing is decided, or the decision is carried out.
use Rattle.std.proofs.Common.{refl}
use Rattle.source_trait.proofs.LaneSteps.{LanesStay-refl}
use Rattle.run_command.specs.Ends.StatementEnds.{no_decision}
use Rattle.run_command.proofs.run.answer.Goals as goal

pub returns-in-Ok-clause-ends : goal.returns-in-Ok-clause-ends
returns-in-Ok-clause-ends g c = c.carry_out.ensures.ends c.args.statement.now c.args.settings.limits.firings c.args.settings.limits.search c.requires.fits c.in-Ok.ensures.decided

pub carry_out-requires-clause-decided : goal.carry_out-requires-clause-decided
carry_out-requires-clause-decided g c κs within = (c.args.statement.now, c.args.settings.limits.firings, c.args.settings.limits.search, c.in-Ok.ensures.decided)

pub returns-in-Err-clause-ends : goal.returns-in-Err-clause-ends
returns-in-Err-clause-ends g c = rw (← c.outputs.view_is) (no_decision c.tell.result (record {
  given = c.in-Err.stop;
  cause = c.in-Err.ensures.memory;
  tells = rw c.as_slice.ensures at c.tell.ensures.tells;
}) refl refl)

pub returns-in-Err-clause-lanes : goal.returns-in-Err-clause-lanes
returns-in-Err-clause-lanes g c = LanesStay-refl g.S.Source.seen c.args.lanes.now
