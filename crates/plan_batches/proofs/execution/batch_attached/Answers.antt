use Rattle.std.proofs.Common.{subst, arith}
use Rattle.middleware.specs.LaneRunning.{IsAttachedTo}
use Rattle.plan_batches.specs.Coming.{HasCome}
use Rattle.middleware.proofs.Begun.{begun_each, begun_going, begun_long}
use Rattle.plan_batches.proofs.Beginning.{begun_some, done_so, going_so, halts_so, idle_so, runs_so}
use Rattle.plan_batches.proofs.Coming.{halts_behind}
use Rattle.plan_batches.proofs.Ending.{few_wanted}
use Rattle.plan_batches.proofs.execution.batch_attached.Goals as goal

pub most_steps-most-requires : goal.most_steps-most-requires
most_steps-most-requires g c = λ plan among. (c.requires.plans.0 plan among).1

pub all_rounds-requires-clause-few : goal.all_rounds-requires-clause-few
all_rounds-requires-clause-few g c κs within =
    let long = begun_long c.args.lanes.now c.start_for.new.lanes c.most_steps-most.result c.start_for.ensures.some c.start_for.ensures.none in
    let few = c.requires.sizes.0 in
    omega (arith, long, few)

pub all_rounds-requires-clause-some : goal.all_rounds-requires-clause-some
all_rounds-requires-clause-some g c κs within =
    begun_some g.S.Source.seen c.args.schema.now c.args.plans.now c.requires.plans.0 c.args.lanes.now c.start_for.new.lanes c.most_steps-most.result c.most_steps-most.ensures c.start_for.ensures.some c.start_for.ensures.none c.requires.some

pub all_rounds-requires-clause-going : goal.all_rounds-requires-clause-going
all_rounds-requires-clause-going g c κs within =
    begun_going c.args.lanes.now c.start_for.new.lanes c.most_steps-most.result c.start_for.ensures.some c.start_for.ensures.none

pub all_rounds-requires-clause-attached : goal.all_rounds-requires-clause-attached
all_rounds-requires-clause-attached g c κs within = λ rel need.
    begun_each c.args.lanes.now c.start_for.new.lanes c.most_steps-most.result c.start_for.ensures.some c.start_for.ensures.none
    (IsAttachedTo g.S.Source.seen c.args.schema.now rel) (c.requires.attached rel need)

pub end_all-requires : goal.end_all-requires
end_all-requires g c = λ member number among h.
    let come = subst (λ n. HasCome g.S.Source.seen c.args.schema.now c.args.plans.now c.start_for.new.lanes c.args.cap n c.in-Ok.progress c.all_rounds.new.lanes) c.most_steps-most.ensures c.in-Ok.ensures.come in
    let less = few_wanted g.S.Source.seen c.args.schema.now c.args.plans.now c.start_for.new.lanes c.args.cap c.in-Ok.progress c.all_rounds.new.lanes come member number among h in
    let cap = c.requires.sizes.1 in
    omega (arith, less, cap)

pub returns-in-Ok-end_all : goal.returns-in-Ok-end_all
returns-in-Ok-end_all g c = record {
  runs = runs_so g.S.Source.seen c.args.schema.now c.args.plans.now c.requires.plans.0 c.args.lanes.now c.start_for.new.lanes c.most_steps-most.result c.most_steps-most.ensures c.start_for.ensures.some c.start_for.ensures.none
      c.args.cap c.in-Ok.progress c.all_rounds.new.lanes c.in-Ok.ensures.come c.in-Ok-end_all.runs.items c.in-Ok-end_all.ensures;
  done = done_so g.S.Source.seen c.args.schema.now c.args.plans.now c.requires.plans.0 c.args.lanes.now c.start_for.new.lanes c.most_steps-most.result c.most_steps-most.ensures c.start_for.ensures.some c.start_for.ensures.none
      c.args.cap c.in-Ok.progress c.all_rounds.new.lanes c.in-Ok.ensures.come c.in-Ok-end_all.runs.items;
  stops = tt;
  idle = idle_so g.S.Source.seen c.args.schema.now c.args.plans.now c.requires.plans.0 c.args.lanes.now c.start_for.new.lanes c.most_steps-most.result c.most_steps-most.ensures c.start_for.ensures.some c.start_for.ensures.none
      c.all_rounds.new.lanes c.in-Ok.ensures.idle;
  going = going_so g.S.Source.seen c.args.schema.now c.args.plans.now c.requires.plans.0 c.args.lanes.now c.start_for.new.lanes c.most_steps-most.result c.most_steps-most.ensures c.start_for.ensures.some c.start_for.ensures.none
      c.all_rounds.new.lanes c.in-Ok.ensures.going;
}

pub returns-in-Ok : goal.returns-in-Ok
returns-in-Ok g c = record {
  runs = tt;
  done = tt;
  stops = halts_so g.S.Source.seen c.args.schema.now c.args.plans.now c.requires.plans.0 c.args.lanes.now c.start_for.new.lanes c.most_steps-most.result c.most_steps-most.ensures c.start_for.ensures.some c.start_for.ensures.none
      c.args.cap c.no_memory.result c.all_rounds.new.lanes
      (halts_behind g.S.Source.seen c.args.schema.now c.args.plans.now c.start_for.new.lanes c.args.cap c.most_steps-most.result c.in-Ok.progress c.all_rounds.new.lanes c.in-Ok.ensures.come
      c.no_memory.result c.no_memory.ensures);
  idle = idle_so g.S.Source.seen c.args.schema.now c.args.plans.now c.requires.plans.0 c.args.lanes.now c.start_for.new.lanes c.most_steps-most.result c.most_steps-most.ensures c.start_for.ensures.some c.start_for.ensures.none
      c.all_rounds.new.lanes c.in-Ok.ensures.idle;
  going = λ rel need. tt;
}

pub returns : goal.returns
returns g c = record {
  runs = tt;
  done = tt;
  stops = halts_so g.S.Source.seen c.args.schema.now c.args.plans.now c.requires.plans.0 c.args.lanes.now c.start_for.new.lanes c.most_steps-most.result c.most_steps-most.ensures c.start_for.ensures.some c.start_for.ensures.none
      c.args.cap c.in-Err.fault c.all_rounds.new.lanes c.in-Err.ensures.stops;
  idle = idle_so g.S.Source.seen c.args.schema.now c.args.plans.now c.requires.plans.0 c.args.lanes.now c.start_for.new.lanes c.most_steps-most.result c.most_steps-most.ensures c.start_for.ensures.some c.start_for.ensures.none
      c.all_rounds.new.lanes c.in-Err.ensures.idle;
  going = λ rel need. tt;
}
