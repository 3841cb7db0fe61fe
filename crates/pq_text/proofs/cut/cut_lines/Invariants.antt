use Rattle.std.proofs.Common.{◌≡◌, ◌≤◌, [], length}
use Rattle.std.specs.List.{AllByRecursion}
use Rattle.pq_text.specs.Spans.{IsSpan, InOrder}
use Rattle.pq_text.specs.Lines.{number_at}
use Rattle.pq_text.proofs.Lines.{cut_from}
use Rattle.pq_text.proofs.cut.cut_lines.Given as goal

abbrev pub invariant-loop-left : goal.invariant-loop-left
invariant-loop-left l = AllByRecursion (IsSpan l.bytes) l.left × InOrder l.counted l.left × (l.counted ≤ length l.bytes) × (l.here ≡ number_at l.bytes l.counted)
    × (cut_from l.bytes [] 1 [] l.tokens ≡ cut_from l.bytes l.whole l.number l.current l.left)

abbrev pub decreases-loop-left : goal.decreases-loop-left
decreases-loop-left l = length l.left
