-- The ways of a statement that was decided, by where the function returns.
use Rattle.std.proofs.Common.{refl}
use Rattle.source_trait.proofs.LaneSteps.{LanesStay-refl}
use Rattle.command_io.proofs.Later.{decision_stop}
use Rattle.command_io.proofs.Short.{short}
use Rattle.proof_search.specs.Plans.{known_of}
use Rattle.run_command.specs.Ends.StatementEnds.{untold, stopped, done}
use Rattle.run_command.proofs.Results.{plan_of, plan_told, none_told, log_told}
use Rattle.run_command.proofs.run.carry_out.Goals as goal

pub returns-in-Err-clause-ends : goal.returns-in-Err-clause-ends
returns-in-Err-clause-ends g c statement firings search fits decided =
    rw (← c.outputs.view_is) (untold c.args.decision.now (g.E.Sink.taken c.write_decision.new.sink)
    (record { faults = g.E.Sink.faults c.write_decision.new.sink; begun = c.write_decision.ensures.later; ended = c.tell.ensures.later })
    c.tell.result decided c.in-Err.ensures.part (record {
      given = c.in-Err.stop;
      cause = decision_stop _ c.in-Err.stop c.in-Err.ensures.cause;
      tells = rw c.as_slice-relations.ensures at c.tell.ensures.tells;
    }) refl refl)

pub returns-in-Err-clause-lanes : goal.returns-in-Err-clause-lanes
returns-in-Err-clause-lanes g c = LanesStay-refl g.S.Source.seen c.args.lanes.now

pub returns-in-NoPlan-clause-ends : goal.returns-in-NoPlan-clause-ends
returns-in-NoPlan-clause-ends g c statement firings search fits decided =
    rw (← c.outputs.view_is) (none_told c.args.schema.now statement firings search c.args.decision.now decided fits _
    _ _ _ _ _ _ refl refl c.in-NoPlan.field-0 c.in-NoPlan.is c.in-Ok.ensures.whole)

pub returns-in-NoPlan-clause-lanes : goal.returns-in-NoPlan-clause-lanes
returns-in-NoPlan-clause-lanes g c = LanesStay-refl g.S.Source.seen c.args.lanes.now

pub returns-in-Undecided-clause-ends : goal.returns-in-Undecided-clause-ends
returns-in-Undecided-clause-ends g c statement firings search fits decided =
    rw (← c.outputs.view_is) (log_told c.args.schema.now statement firings search c.args.decision.now decided fits _
    _ _ _ _ _ _ refl refl c.in-Undecided.select c.in-Undecided.log c.in-Undecided.is c.in-Ok.ensures.whole)

pub returns-in-Undecided-clause-lanes : goal.returns-in-Undecided-clause-lanes
returns-in-Undecided-clause-lanes g c = LanesStay-refl g.S.Source.seen c.args.lanes.now

pub deliver_as-requires-clause-lawful : goal.deliver_as-requires-clause-lawful
deliver_as-requires-clause-lawful g c κs within =
    let (statement, firings, search, decided) = c.requires.decided in
    let is = plan_of c.args.schema.now statement firings search c.args.decision.now decided c.in-Plan.plan c.in-Plan.selects c.in-Plan.is in
    (known_of c.args.schema.now statement, is.0.lawful)

pub deliver_as-requires-clause-short : goal.deliver_as-requires-clause-short
deliver_as-requires-clause-short g c κs within =
    let (statement, firings, search, decided) = c.requires.decided in
    let is = plan_of c.args.schema.now statement firings search c.args.decision.now decided c.in-Plan.plan c.in-Plan.selects c.in-Plan.is in
    short c.in-Plan.plan is.1.few

pub returns-in-Ok-deliver_as-clause-ends : goal.returns-in-Ok-deliver_as-clause-ends
returns-in-Ok-deliver_as-clause-ends g c statement firings search fits decided =
    let told = plan_told c.args.schema.now statement firings search c.args.decision.now decided c.in-Plan.plan c.in-Plan.selects _ _ c.in-Plan.is c.in-Ok.ensures.whole in
    rw (← c.outputs.view_is) (done c.in-Plan.plan c.in-Plan.selects told.0 told.1 c.in-Ok-deliver_as.ensures.delivers)

pub returns-in-Err-deliver_as-clause-ends : goal.returns-in-Err-deliver_as-clause-ends
returns-in-Err-deliver_as-clause-ends g c statement firings search fits decided =
    let told = plan_told c.args.schema.now statement firings search c.args.decision.now decided c.in-Plan.plan c.in-Plan.selects _ _ c.in-Plan.is c.in-Ok.ensures.whole in
    rw (← c.outputs.view_is) (stopped c.in-Plan.plan c.in-Plan.selects (g.E.Sink.taken c.write_decision.new.sink)
    (record { faults = g.E.Sink.faults c.write_decision.new.sink; begun = c.write_decision.ensures.later; ended = c.tell-in-Err-deliver_as.ensures.later })
    c.in-Err-deliver_as.stop c.tell-in-Err-deliver_as.result told.0 told.1 c.in-Err-deliver_as.ensures.delivers (record {
      given = c.in-Err-deliver_as.stop;
      cause = refl;
      tells = rw c.as_slice-relations.ensures at c.tell-in-Err-deliver_as.ensures.tells;
    }))
