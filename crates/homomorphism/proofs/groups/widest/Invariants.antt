use Rattle.std.proofs.Common.{length}
use Rattle.homomorphism.proofs.groups.widest.Given as goal

abbrev pub decreases-loop-last : goal.decreases-loop-last
decreases-loop-last l = length l.each.items
