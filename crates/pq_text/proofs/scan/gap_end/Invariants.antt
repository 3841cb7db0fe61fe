use Rattle.std.proofs.Common.{◌≡◌, ◌+◌, ◌≤◌, false, length}
use Rattle.pq_text.specs.Tokens.{gap_from}
use Rattle.pq_text.proofs.scan.gap_end.Given as goal

abbrev pub invariant-loop-left : goal.invariant-loop-left
invariant-loop-left l = (l.place + length l.left ≡ l.at + length l.bytes) × (l.at ≤ l.place) × (gap_from l.at l.style false l.bytes ≡ gap_from l.place l.style l.comment l.left)

abbrev pub decreases-loop-left : goal.decreases-loop-left
decreases-loop-left l = length l.left
