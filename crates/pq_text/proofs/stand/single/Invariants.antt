use Rattle.std.proofs.Common.{◌≡◌, ◌++◌, false, length}
use Rattle.pq_text.specs.Standing.{single}
use Rattle.pq_text.proofs.stand.single.Given as goal

abbrev pub invariant-loop-left : goal.invariant-loop-left
invariant-loop-left l = l.out.items ++ single l.quote l.behind_quote l.left ≡ single l.quote false l.bytes

abbrev pub decreases-loop-left : goal.decreases-loop-left
decreases-loop-left l = length l.left
