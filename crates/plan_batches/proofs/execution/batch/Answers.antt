use Rattle.std.proofs.Common.{◌↔◌, ℕ, List, sym, subst, ap, length, arith}
use Rattle.std.specs.Prelude.{Contains, Ok, Err}
use Rattle.middleware.specs.Needs.{AttachesNeeded}
use Rattle.middleware.specs.declared.fault.RunFault.{RunFault}
use Rattle.plan_batches.specs.Batching.{Concerns, ExecutesAll, needed_by_all}
use Rattle.plan_batches.specs.declared.fault.BatchFault.{BatchFault}
use Rattle.plan_batches.specs.Needing.{HasRelation, IsNamedIn, StandsIn}
use Rattle.plan_batches.specs.declared.needs.Accessed.{Accessed}
use Rattle.plan_batches.proofs.Attaching.{attaches_all, concerned, each_attached, fault_listed, listed_there, no_room, not_begun, ready_plans, some_lane}
use Rattle.plan_batches.proofs.Beginning.{went_on_so}
use Rattle.plan_batches.proofs.execution.batch.Goals as goal

pub returns-in_default : goal.returns-in_default
returns-in_default g c = record {
  executes = subst (λ (w : BatchFault). ExecutesAll g.S.Source.seen c.args.schema.now c.args.plans.now c.args.cap c.args.lanes.now c.args.lanes.now (Err w)) (sym c.no_memory.ensures)
      (no_room c.args.schema.now c.args.plans.now g.S.Source.seen c.args.cap c.args.lanes.now);
}

pub returns-in_default-all_accessed : goal.returns-in_default-all_accessed
returns-in_default-all_accessed g c = record {
  executes = subst (λ (w : BatchFault). ExecutesAll g.S.Source.seen c.args.schema.now c.args.plans.now c.args.cap c.args.lanes.now c.args.lanes.now (Err w)) (sym c.no_memory-why.ensures)
      (no_room c.args.schema.now c.args.plans.now g.S.Source.seen c.args.cap c.args.lanes.now);
}

pub attach_needed-requires-clause-there : goal.attach_needed-requires-clause-there
attach_needed-requires-clause-there g c κs within = λ rel among.
    listed_there c.args.schema.now c.args.plans.now c.in-Ok.each.items c.in-Ok.ensures rel
    (subst (λ (l : List Accessed). StandsIn l rel) c.as_slice.ensures.value
    ((c.in-Ok-all_accessed.ensures.exactly rel).0 (subst (λ (l : List ℕ). Contains l rel) c.as_slice-needed.ensures.value among)))

pub batch_attached-requires-clause-plans : goal.batch_attached-requires-clause-plans
batch_attached-requires-clause-plans g c κs within = (ready_plans c.args.schema.now c.args.plans.now c.requires.lawful c.requires.short, c.requires.sizes.2)

pub batch_attached-requires-clause-some : goal.batch_attached-requires-clause-some
batch_attached-requires-clause-some g c κs within =
    some_lane c.args.schema.now c.args.plans.now g.S.Source.seen c.args.lanes.now c.attach_needed.new.lanes
    (attaches_all c.args.schema.now c.args.plans.now c.in-Ok.each.items c.in-Ok.ensures g.S.Source.seen c.in-Ok-all_accessed.rels.items c.as_slice-needed.result.now c.as_slice-needed.ensures.value (λ rel. subst (λ l. Contains c.in-Ok-all_accessed.rels.items rel ↔ StandsIn l rel) c.as_slice.ensures.value (c.in-Ok-all_accessed.ensures.exactly rel)) c.args.lanes.now c.attach_needed.new.lanes (Ok tt) c.in-Ok-attach_needed.ensures.attaches)

pub batch_attached-requires-clause-attached : goal.batch_attached-requires-clause-attached
batch_attached-requires-clause-attached g c κs within =
    each_attached c.args.schema.now c.args.plans.now g.S.Source.seen c.args.lanes.now c.attach_needed.new.lanes
    (attaches_all c.args.schema.now c.args.plans.now c.in-Ok.each.items c.in-Ok.ensures g.S.Source.seen c.in-Ok-all_accessed.rels.items c.as_slice-needed.result.now c.as_slice-needed.ensures.value (λ rel. subst (λ l. Contains c.in-Ok-all_accessed.rels.items rel ↔ StandsIn l rel) c.as_slice.ensures.value (c.in-Ok-all_accessed.ensures.exactly rel)) c.args.lanes.now c.attach_needed.new.lanes (Ok tt) c.in-Ok-attach_needed.ensures.attaches)

pub returns-in-Ok-attach_needed : goal.returns-in-Ok-attach_needed
returns-in-Ok-attach_needed g c = record {
  executes = went_on_so g.S.Source.seen c.args.schema.now c.args.plans.now (ready_plans c.args.schema.now c.args.plans.now c.requires.lawful c.requires.short)
      (λ v. v.items) c.args.cap c.args.lanes.now c.attach_needed.new.lanes c.batch_attached.new.lanes c.batch_attached.result
      (attaches_all c.args.schema.now c.args.plans.now c.in-Ok.each.items c.in-Ok.ensures g.S.Source.seen c.in-Ok-all_accessed.rels.items c.as_slice-needed.result.now c.as_slice-needed.ensures.value (λ rel. subst (λ l. Contains c.in-Ok-all_accessed.rels.items rel ↔ StandsIn l rel) c.as_slice.ensures.value (c.in-Ok-all_accessed.ensures.exactly rel)) c.args.lanes.now c.attach_needed.new.lanes (Ok tt) c.in-Ok-attach_needed.ensures.attaches)
      c.in-Ok-attach_needed.ensures.lanes c.batch_attached.ensures.runs c.batch_attached.ensures.done c.batch_attached.ensures.stops c.batch_attached.ensures.idle c.batch_attached.ensures.going;
}

pub attach_fault-requires-clause-has : goal.attach_fault-requires-clause-has
attach_fault-requires-clause-has g c =
    subst (λ (l : List Accessed). HasRelation l c.in-Err.fault) (sym c.as_slice-lent.ensures.value)
    (fault_listed c.args.schema.now c.args.plans.now g.S.Source.seen c.in-Ok.each.items c.in-Ok.ensures c.args.lanes.now c.attach_needed.new.lanes c.in-Err.fault
    (attaches_all c.args.schema.now c.args.plans.now c.in-Ok.each.items c.in-Ok.ensures g.S.Source.seen c.in-Ok-all_accessed.rels.items c.as_slice-needed.result.now c.as_slice-needed.ensures.value (λ rel. subst (λ l. Contains c.in-Ok-all_accessed.rels.items rel ↔ StandsIn l rel) c.as_slice.ensures.value (c.in-Ok-all_accessed.ensures.exactly rel)) c.args.lanes.now c.attach_needed.new.lanes (Err c.in-Err.fault) c.in-Err.ensures.attaches))

pub attach_fault-requires-clause-few : goal.attach_fault-requires-clause-few
attach_fault-requires-clause-few g c =
    let lent = ap length c.as_slice-lent.ensures.value in
    let long = c.in-Ok.ensures.long in
    let few = c.requires.sizes.2 in
    omega (arith, lent, long, few)

pub returns : goal.returns
returns g c = record {
  executes = not_begun c.args.schema.now c.args.plans.now g.S.Source.seen c.args.cap c.args.lanes.now c.attach_needed.new.lanes c.attach_fault.result
      (subst (λ (f : RunFault). AttachesNeeded g.S.Source.seen c.args.schema.now (needed_by_all c.args.schema.now c.args.plans.now) c.args.lanes.now c.attach_needed.new.lanes (Err f)) (sym c.attach_fault.ensures.fault)
      (attaches_all c.args.schema.now c.args.plans.now c.in-Ok.each.items c.in-Ok.ensures g.S.Source.seen c.in-Ok-all_accessed.rels.items c.as_slice-needed.result.now c.as_slice-needed.ensures.value (λ rel. subst (λ l. Contains c.in-Ok-all_accessed.rels.items rel ↔ StandsIn l rel) c.as_slice.ensures.value (c.in-Ok-all_accessed.ensures.exactly rel)) c.args.lanes.now c.attach_needed.new.lanes (Err c.in-Err.fault) c.in-Err.ensures.attaches))
      (subst (λ (f : RunFault). Concerns c.args.schema.now c.args.plans.now c.attach_fault.result.plan f) (sym c.attach_fault.ensures.fault)
      (concerned c.args.schema.now c.args.plans.now c.in-Ok.each.items c.in-Ok.ensures c.attach_fault.result.plan c.in-Err.fault
      (subst (λ (l : List Accessed). IsNamedIn l c.attach_fault.result.plan c.in-Err.fault) c.as_slice-lent.ensures.value c.attach_fault.ensures.plan)))
      c.in-Err.ensures.lanes;
}
