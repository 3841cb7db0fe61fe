use Rattle.std.proofs.Common.{◌≡◌, length}
use Rattle.least_search.specs.Cuts.{is_within}
use Rattle.least_search.proofs.rest.is_within.Given as goal

abbrev pub invariant-loop-left : goal.invariant-loop-left
invariant-loop-left l = is_within l.left l.right ≡ is_within l.set l.larger

abbrev pub decreases-loop-left : goal.decreases-loop-left
decreases-loop-left l = length l.left
