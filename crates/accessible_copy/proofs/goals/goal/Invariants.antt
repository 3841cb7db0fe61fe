use Rattle.std.proofs.Common.{take}
use Rattle.accessible_copy.proofs.HeadMatches.{NoGoal}
use Rattle.accessible_copy.proofs.goals.goal.Given as goal

abbrev pub invariant-loop-number : goal.invariant-loop-number
invariant-loop-number l = NoGoal (take l.number l.queries) l.proof.end.copy l.head
