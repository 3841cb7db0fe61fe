use Rattle.std.proofs.Common.{length}
use Rattle.homomorphism.proofs.turning.+advanced.Given as goal

abbrev pub decreases-advanced : goal.decreases-advanced
decreases-advanced l = length l.counts.now
