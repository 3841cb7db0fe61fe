use Rattle.std.proofs.Common.{◌≡◌, length}
use Rattle.pq_text.specs.Printing.{all_small}
use Rattle.pq_text.proofs.print.all_small.Given as goal

abbrev pub invariant-loop-left : goal.invariant-loop-left
invariant-loop-left l = all_small l.bytes ≡ all_small l.left

abbrev pub decreases-loop-left : goal.decreases-loop-left
decreases-loop-left l = length l.left
