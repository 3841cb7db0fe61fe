use Rattle.std.proofs.Common.{arith}
use Rattle.middleware.specs.Branches.{AreAskable}
use Rattle.middleware.proofs.Begun.{begun_each, begun_going, begun_long}
use Rattle.middleware.proofs.Starting.{all_ready}
use Rattle.plan_course.proofs.Accessing.{turn_accesses}
use Rattle.plan_execution.proofs.Starting.{all_askable}
use Rattle.plan_execution.proofs.Finished.{promised}
use Rattle.plan_execution.proofs.execution.execute_attached.Goals as goal

pub count_steps-steps-requires : goal.count_steps-steps-requires
count_steps-steps-requires g c = (c.requires.few, c.requires.short)

pub run_rounds-requires-clause-lanes : goal.run_rounds-requires-clause-lanes
run_rounds-requires-clause-lanes g c κs within =
    let long = begun_long c.args.lanes.now c.start_for.new.lanes c.count_steps-steps.result c.start_for.ensures.some
    c.start_for.ensures.none in
    let steps = c.count_steps-steps.ensures in
    let few = c.requires.lanes in (
      (λ l.
          let (rel, a) = turn_accesses c.args.schema.now c.args.plan.now
          (all_ready c.args.schema.now c.args.plan.now c.requires.lawful.0 c.requires.lawful.1)
          (omega (arith, l, steps)) in
          let there = c.requires.some rel a in
          omega (arith, there, long)),
      omega (arith, long, few),
    )

pub run_rounds-requires-clause-ready : goal.run_rounds-requires-clause-ready
run_rounds-requires-clause-ready g c κs within = (
  all_ready c.args.schema.now c.args.plan.now c.requires.lawful.0 c.requires.lawful.1,
  (c.requires.few, c.requires.short),
)

pub run_rounds-requires-clause-askable : goal.run_rounds-requires-clause-askable
run_rounds-requires-clause-askable g c κs within = λ its among.
    begun_each c.args.lanes.now c.start_for.new.lanes c.count_steps-steps.result c.start_for.ensures.some
    c.start_for.ensures.none
    (λ kinds. AreAskable g.S.Source.seen c.args.schema.now kinds its.steps)
    (all_askable c.args.schema.now c.args.plan.now g.S.Source.seen c.args.lanes.now c.requires.attached its among)

pub run_rounds-requires-clause-going : goal.run_rounds-requires-clause-going
run_rounds-requires-clause-going g c κs within =
    begun_going c.args.lanes.now c.start_for.new.lanes c.count_steps-steps.result c.start_for.ensures.some
    c.start_for.ensures.none

pub returns : goal.returns
returns g c = record {
  executes = promised g.S.Source.seen c.args.schema.now c.args.plan.now c.args.cap c.args.lanes.now
      c.start_for.new.lanes c.run_rounds.new.lanes
      c.count_steps-steps.result c.start_for.ensures.some c.start_for.ensures.none
      (all_ready c.args.schema.now c.args.plan.now c.requires.lawful.0 c.requires.lawful.1) c.count_steps-steps.ensures
      c.run_rounds.result c.run_rounds.ensures.done c.run_rounds.ensures.ascends c.run_rounds.ensures.within
      c.run_rounds.ensures.stops
      c.run_rounds.ensures.idle c.run_rounds.ensures.going;
}
