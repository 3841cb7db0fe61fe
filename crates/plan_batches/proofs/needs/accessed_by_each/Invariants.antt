use Rattle.std.proofs.Common.{take}
use Rattle.plan_batches.specs.Each.{Both}
use Rattle.plan_batches.specs.Needing.{Accesses}
use Rattle.plan_batches.proofs.needs.accessed_by_each.Given as goal

abbrev pub invariant-loop-plan : goal.invariant-loop-plan
invariant-loop-plan l = Both (Accesses l.schema) (take l.plan-index l.plans) l.each.items
