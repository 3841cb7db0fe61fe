use Rattle.std.proofs.Common.{arith}
use Rattle.access_schema.specs.Meaning.{meaning_of}
use Rattle.plan_execution.proofs.Coming.{done_all, halts_full}
use Rattle.plan_execution.proofs.rounds.run_rounds.Goals as goal

pub returns-in-Ok-rows-clause-done : goal.returns-in-Ok-rows-clause-done
returns-in-Ok-rows-clause-done g c =
    let come = c.in-Ok.ensures.come in
    let steps = c.requires.steps in
    done_all g.S.Source.seen c.args.schema.now c.args.plan.now c.requires.ready.0 c.args.cap c.args.lanes.now
    c.args.steps c.in-Ok.reached c.all_rounds.new.lanes
    come steps c.in-Ok-rows.rows
    (λ instance knows. c.in-Ok-rows.ensures.all
    (meaning_of c.args.schema.now) instance c.args.plan.now c.args.steps come.at (omega (arith, steps)) knows)

pub returns-in-Err-rows-clause-stops : goal.returns-in-Err-rows-clause-stops
returns-in-Err-rows-clause-stops g c =
    halts_full g.S.Source.seen c.args.schema.now c.args.plan.now c.requires.ready.0 c.args.cap c.args.lanes.now
    c.args.steps c.in-Ok.reached c.all_rounds.new.lanes
    c.in-Ok.ensures.come c.requires.steps
