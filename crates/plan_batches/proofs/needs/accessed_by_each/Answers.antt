use Rattle.std.proofs.Common.{arith, subst, sym, take, List, ◌++◌, ◌∷◌, []}
use Rattle.lists.proofs.Places.{take_indexed}
use Rattle.meaning.specs.declared.types.Plan.{Plan}
use Rattle.plan_batches.specs.Each.{Both}
use Rattle.plan_batches.specs.Needing.{Accesses}
use Rattle.plan_batches.specs.declared.needs.Accessed.{Accessed}
use Rattle.plan_batches.proofs.Pairing.{both_push}
use Rattle.plan_batches.proofs.needs.accessed_by_each.Goals as goal

pub loop-plan-preserved : goal.loop-plan-preserved
loop-plan-preserved c =
    let longer = take_indexed c.args.plans.now c.loop-plan.plan-index c.plan-item.result (omega arith) c.plan-item.is in
    subst (λ (l : List Plan). Both (Accesses c.args.schema.now) l c.push.new.self.items) (sym longer)
    (subst (λ (l : List Accessed). Both (Accesses c.args.schema.now) (take c.loop-plan.plan-index c.args.plans.now ++ c.plan-item.result ∷ []) l) (sym c.in_ok-push.ensures.items)
    (both_push (Accesses c.args.schema.now) (take c.loop-plan.plan-index c.args.plans.now) c.loop-plan.each.items c.plan-item.result
    (record { rels = c.in_ok-accessed.field-0 }) c.loop-plan.invariant c.in_ok-accessed.ensures.exactly))
