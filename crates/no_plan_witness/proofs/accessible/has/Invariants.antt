use Rattle.std.proofs.Common.{◌↔◌, Contains, length}
use Rattle.no_plan_witness.proofs.accessible.has.Given as goal

abbrev pub invariant-loop-left : goal.invariant-loop-left
invariant-loop-left g l = Contains l.members l.member ↔ Contains l.left l.member

abbrev pub decreases-loop-left : goal.decreases-loop-left
decreases-loop-left g l = length l.left
