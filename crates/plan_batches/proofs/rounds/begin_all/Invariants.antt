use Rattle.std.proofs.Common.{take}
use Rattle.plan_batches.specs.Each.{Both}
use Rattle.plan_batches.specs.Members.{Begins}
use Rattle.plan_batches.proofs.rounds.begin_all.Given as goal

abbrev pub invariant-loop-plan : goal.invariant-loop-plan
invariant-loop-plan l = Both Begins (take l.plan-index l.plans) l.members.items
