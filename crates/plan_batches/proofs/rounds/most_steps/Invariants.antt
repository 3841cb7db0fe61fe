use Rattle.std.proofs.Common.{◌≡◌, take}
use Rattle.plan_batches.specs.Batching.{most_steps}
use Rattle.plan_batches.proofs.rounds.most_steps.Given as goal

abbrev pub invariant-loop-plan : goal.invariant-loop-plan
invariant-loop-plan l = l.most ≡ most_steps (take l.plan-index l.plans)
