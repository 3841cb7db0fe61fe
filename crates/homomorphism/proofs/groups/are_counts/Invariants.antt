use Rattle.std.proofs.Common.{List, ℕ, Contains, take}
use Rattle.homomorphism.specs.Walks.{AreCounts}
use Rattle.homomorphism.proofs.groups.are_counts.Given as goal

abbrev pub invariant-loop-counts : goal.invariant-loop-counts
invariant-loop-counts l = (counts : List ℕ) → Contains (take l.counts-index l.groups) counts → AreCounts l.whole counts
