-- The ways of a plan, by where the function returns.
use Rattle.std.proofs.Common.{Ok, Err, refl}
use Rattle.source_trait.proofs.LaneSteps.{LanesStay-refl}
use Rattle.command_io.specs.declared.stop.Stop.TheVariants as stop
use Rattle.exec_command.specs.Known.{known_to}
use Rattle.exec_command.specs.Ends.IdleStop.{no_memory}
use Rattle.exec_command.specs.Ends.PlanEnds.{idle, stopped, done}
use Rattle.command_io.proofs.Short.{short}
use Rattle.exec_command.proofs.Results.{delivered}
use Rattle.exec_command.proofs.exec.carry_out.Goals as goal

pub returns-in-Err-clause-ends : goal.returns-in-Err-clause-ends
returns-in-Err-clause-ends g c = rw (← c.outputs.view_is) (idle c.tell.result (record {
  given = c.in-Err.stop;
  cause = c.in-Err.ensures.cause;
  tells = rw c.as_slice-relations.ensures at c.tell.ensures.tells;
}) refl refl)

pub returns-in-Err-clause-lanes : goal.returns-in-Err-clause-lanes
returns-in-Err-clause-lanes g c = LanesStay-refl g.S.Source.seen c.args.lanes.now

pub returns-in-Err-column_names-clause-ends : goal.returns-in-Err-column_names-clause-ends
returns-in-Err-column_names-clause-ends g c = rw (← c.outputs.view_is) (idle c.tell-in-Err-column_names.result (record {
  given = stop.Memory;
  cause = no_memory;
  tells = c.tell-in-Err-column_names.ensures.tells;
}) refl refl)

pub returns-in-Err-column_names-clause-lanes : goal.returns-in-Err-column_names-clause-lanes
returns-in-Err-column_names-clause-lanes g c = LanesStay-refl g.S.Source.seen c.args.lanes.now

pub deliver-requires-clause-lawful : goal.deliver-requires-clause-lawful
deliver-requires-clause-lawful g c κs within = (known_to c.args.schema.now c.args.plan.now, c.in-Ok.ensures.lawful)

pub deliver-requires-clause-short : goal.deliver-requires-clause-short
deliver-requires-clause-short g c κs within = short c.args.plan.now c.requires.fits.few

pub returns-in-Ok-deliver-clause-ends : goal.returns-in-Ok-deliver-clause-ends
returns-in-Ok-deliver-clause-ends g c =
    rw (← c.outputs.view_is) (done c.in-Ok.ensures.lawful
    (delivered g.S.Source.seen c.args.schema.now c.args.plan.now c.args.calls _ _ _ _ _ (Ok tt) (rw c.in-Ok-column_names.ensures at c.in-Ok-deliver.ensures.delivers)) refl)

pub returns-clause-ends : goal.returns-clause-ends
returns-clause-ends g c =
    rw (← c.outputs.view_is) (stopped c.in-Err-deliver.stop c.tell-in-Err-deliver.result c.in-Ok.ensures.lawful
    (delivered g.S.Source.seen c.args.schema.now c.args.plan.now c.args.calls _ _ _ _ _ (Err c.in-Err-deliver.stop) (rw c.in-Ok-column_names.ensures at c.in-Err-deliver.ensures.delivers)) (record {
      given = c.in-Err-deliver.stop;
      cause = refl;
      tells = rw c.as_slice-relations.ensures at c.tell-in-Err-deliver.ensures.tells;
    }))
