use Rattle.std.proofs.Common.{◌≡◌, ◌+◌, ◌≤◌, length}
use Rattle.pq_text.specs.Tokens.{run_from, is_word_byte}
use Rattle.pq_text.proofs.scan.word_end.Given as goal

abbrev pub invariant-loop-left : goal.invariant-loop-left
invariant-loop-left l = (l.place + length l.left ≡ l.at + length l.bytes) × (l.at ≤ l.place) × (run_from l.at is_word_byte l.bytes ≡ run_from l.place is_word_byte l.left)

abbrev pub decreases-loop-left : goal.decreases-loop-left
decreases-loop-left l = length l.left
