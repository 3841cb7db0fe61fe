use Rattle.std.proofs.Common.{length}
use Rattle.homomorphism.proofs.FrontierMatches.{IsWalked}
use Rattle.homomorphism.proofs.rules.first_unmet.Given as goal

abbrev pub invariant-loop-walk : goal.invariant-loop-walk
invariant-loop-walk l = IsWalked l.store l.rule l.walk

abbrev pub decreases-loop-walk : goal.decreases-loop-walk
decreases-loop-walk l = length l.walk
