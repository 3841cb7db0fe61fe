use Rattle.std.proofs.Common.{ℕ, List, subst}
use Rattle.std.specs.Prelude.{Contains, Ok, Err}
use Rattle.std.proofs.lemmas.Result.{err_from_is_err_and}
use Rattle.middleware.proofs.Starting.{accessed_there}
use Rattle.plan_execution.proofs.Starting.{attaches_plan, some_lane, each_attached}
use Rattle.plan_execution.proofs.Finished.{not_begun, no_room, went_on}
use Rattle.plan_execution.proofs.execution.execute.Goals as goal

pub returns-in-Err : goal.returns-in-Err
returns-in-Err g c = record {
  executes = no_room g.S.Source.seen c.args.schema.now c.args.plan.now c.args.cap
      c.args.lanes.now;
}

pub attach_needed-requires-clause-there : goal.attach_needed-requires-clause-there
attach_needed-requires-clause-there g c κs within = λ rel among.
    accessed_there c.args.schema.now c.args.plan.now rel
    ((c.in-Ok.ensures.exactly rel).0 (subst (λ (l : List ℕ). Contains l rel) c.as_slice-needed.ensures.value among))

pub execute_attached-requires-clause-some : goal.execute_attached-requires-clause-some
execute_attached-requires-clause-some g c κs within =
    some_lane c.args.schema.now c.args.plan.now g.S.Source.seen c.args.lanes.now c.attach_needed.new.lanes
    (attaches_plan c.args.schema.now c.args.plan.now g.S.Source.seen c.in-Ok.rels.items c.as_slice-needed.result.now
    c.as_slice-needed.ensures.value
    c.in-Ok.ensures.exactly c.args.lanes.now c.attach_needed.new.lanes (Ok tt) c.in_ok-attach_needed.ensures.attaches)

pub execute_attached-requires-clause-attached : goal.execute_attached-requires-clause-attached
execute_attached-requires-clause-attached g c κs within =
    each_attached c.args.schema.now c.args.plan.now g.S.Source.seen c.args.lanes.now c.attach_needed.new.lanes
    (attaches_plan c.args.schema.now c.args.plan.now g.S.Source.seen c.in-Ok.rels.items c.as_slice-needed.result.now
    c.as_slice-needed.ensures.value
    c.in-Ok.ensures.exactly c.args.lanes.now c.attach_needed.new.lanes (Ok tt) c.in_ok-attach_needed.ensures.attaches)

pub returns : goal.returns
returns g c = record {
  executes = went_on g.S.Source.seen c.args.schema.now c.args.plan.now c.args.cap c.args.lanes.now
      c.attach_needed.new.lanes c.execute_attached.new.lanes
      c.execute_attached.result
      (attaches_plan c.args.schema.now c.args.plan.now g.S.Source.seen c.in-Ok.rels.items c.as_slice-needed.result.now
      c.as_slice-needed.ensures.value
      c.in-Ok.ensures.exactly c.args.lanes.now c.attach_needed.new.lanes (Ok tt) c.in_ok-attach_needed.ensures.attaches)
      c.in_ok-attach_needed.ensures.lanes c.execute_attached.ensures.executes;
}

pub returns-in_err-attach_needed : goal.returns-in_err-attach_needed
returns-in_err-attach_needed g c = let told = err_from_is_err_and c.from_residual.result c.from_residual.ensures.1 in record {
  executes = rw (told.1, told.2) (not_begun g.S.Source.seen c.args.schema.now c.args.plan.now c.args.cap c.args.lanes.now
      c.attach_needed.new.lanes c.in_err-attach_needed.field-0.0
      (attaches_plan c.args.schema.now c.args.plan.now g.S.Source.seen c.in-Ok.rels.items c.as_slice-needed.result.now
      c.as_slice-needed.ensures.value
      c.in-Ok.ensures.exactly c.args.lanes.now c.attach_needed.new.lanes
      (Err c.in_err-attach_needed.field-0.0) c.in_err-attach_needed.ensures.attaches)
      c.in_err-attach_needed.ensures.lanes);
}
