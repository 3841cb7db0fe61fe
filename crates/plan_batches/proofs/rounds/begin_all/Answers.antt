use Rattle.std.proofs.Common.{arith, subst, sym, take, List, ◌++◌, ◌∷◌, []}
use Rattle.lists.proofs.Members.{contains_got}
use Rattle.lists.proofs.Places.{got_indexed, take_indexed}
use Rattle.meaning.specs.declared.types.Plan.{Plan}
use Rattle.plan_batches.specs.Each.{Both}
use Rattle.plan_batches.specs.Members.{Begins}
use Rattle.plan_batches.specs.declared.member.Member.{Member}
use Rattle.plan_batches.proofs.Pairing.{both_push}
use Rattle.plan_batches.proofs.rounds.begin_all.Goals as goal

pub begin-requires : goal.begin-requires
begin-requires c =
    c.requires c.plan-item.result (contains_got c.args.plans.now c.loop-plan.plan-index c.plan-item.result
    (got_indexed c.args.plans.now c.loop-plan.plan-index c.plan-item.result (omega arith) c.plan-item.is))

pub loop-plan-preserved : goal.loop-plan-preserved
loop-plan-preserved c =
    let longer = take_indexed c.args.plans.now c.loop-plan.plan-index c.plan-item.result (omega arith) c.plan-item.is in
    subst (λ (l : List Plan). Both Begins l c.push.new.self.items) (sym longer)
    (subst (λ (l : List Member). Both Begins (take c.loop-plan.plan-index c.args.plans.now ++ c.plan-item.result ∷ []) l) (sym c.in_ok-push.ensures.items)
    (both_push Begins (take c.loop-plan.plan-index c.args.plans.now) c.loop-plan.members.items c.plan-item.result
    c.in_ok-begin.field-0 c.loop-plan.invariant c.in_ok-begin.ensures))
