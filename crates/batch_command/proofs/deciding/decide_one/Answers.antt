-- What became of one statement, by where the function returns.
use Rattle.std.proofs.Common.{refl}
use Rattle.command_io.proofs.Later.{decision_stop}
use Rattle.batch_command.specs.Deciding.EndsAt.{no_decision, untold}
use Rattle.batch_command.proofs.Ending.{plan_told, outcome_told}
use Rattle.batch_command.proofs.deciding.decide_one.Goals as goal

pub returns-in-Err-clause-ended : goal.returns-in-Err-clause-ended
returns-in-Err-clause-ended g c = no_decision c.tell.result (record {
  given = c.in-Err.stop;
  cause = c.in-Err.ensures.memory;
  tells = rw c.as_slice-relations.ensures at c.tell.ensures.tells;
})

pub returns-in-Err-write_numbered-clause-ended : goal.returns-in-Err-write_numbered-clause-ended
returns-in-Err-write_numbered-clause-ended g c =
    untold c.in-Ok.decision (g.E.Sink.taken c.write_numbered.new.err)
    (record {
      faults = g.E.Sink.faults c.write_numbered.new.err;
      begun = c.write_numbered.ensures.later;
      ended =
          c.tell-in-Err-write_numbered.ensures.later;
    })
    c.tell-in-Err-write_numbered.result c.in-Ok.ensures.decided c.in-Err-write_numbered.ensures.part (record {
      given = c.in-Err-write_numbered.stop;
      cause = decision_stop _ c.in-Err-write_numbered.stop c.in-Err-write_numbered.ensures.cause;
      tells = rw c.as_slice-relations.ensures at c.tell-in-Err-write_numbered.ensures.tells;
    })

pub returns-in-Ok-plan_or_outcome-clause-planned :
    goal.returns-in-Ok-plan_or_outcome-clause-planned
returns-in-Ok-plan_or_outcome-clause-planned g c =
    let (text, numbered, took) = c.in-Ok-write_numbered.ensures.whole in
    let (entries, is) = c.in-Ok-plan_or_outcome.ensures.plan in
    plan_told c.args.schema.now c.args.statement.now c.args.limits.firings c.args.limits.search c.args.number c.in-Ok.decision
    c.in-Ok.ensures.decided c.requires.fits
    _ _ text numbered took c.in-Ok-plan_or_outcome.plan entries is

pub returns-in-Err-plan_or_outcome-clause-ended : goal.returns-in-Err-plan_or_outcome-clause-ended
returns-in-Err-plan_or_outcome-clause-ended g c =
    let (text, numbered, took) = c.in-Ok-write_numbered.ensures.whole in
    let (same, not) = c.in-Err-plan_or_outcome.ensures.none in
    outcome_told c.args.schema.now c.args.statement.now c.args.limits.firings c.args.limits.search c.args.number c.in-Ok.decision
    c.in-Ok.ensures.decided c.requires.fits
    _ _ text numbered took _ _ _ c.in-Ok.decision c.in-Err-plan_or_outcome.outcome refl same not
