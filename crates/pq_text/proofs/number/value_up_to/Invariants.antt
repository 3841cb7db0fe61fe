use Rattle.std.proofs.Common.{◌≡◌, ◌≤◌, length}
use Rattle.pq_text.proofs.Digits.{capped_from}
use Rattle.pq_text.proofs.number.value_up_to.Given as goal

abbrev pub invariant-loop-left : goal.invariant-loop-left
invariant-loop-left l = (l.value ≤ l.limit) × (capped_from l.limit 0 l.digits ≡ capped_from l.limit l.value l.left)

abbrev pub decreases-loop-left : goal.decreases-loop-left
decreases-loop-left l = length l.left
