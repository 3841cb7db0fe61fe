use Rattle.std.proofs.Common.{◌-◌, ◌≤◌, length}
use Rattle.std.specs.List.{AllByRecursion}
use Rattle.pq_text.specs.Spans.{IsSpan, InOrder}
use Rattle.pq_text.specs.Tokens.{Lexes}
use Rattle.pq_text.proofs.Spans.{last_end}
use Rattle.pq_text.proofs.scan.front_tokens.Given as goal

abbrev pub invariant-loop-at : goal.invariant-loop-at
invariant-loop-at l = (l.at ≤ length l.bytes) × Lexes l.style l.bytes 0 l.tokens l.at × AllByRecursion (IsSpan l.bytes) l.tokens × InOrder 0 l.tokens × (last_end 0 l.tokens ≤ l.at)

abbrev pub decreases-loop-at : goal.decreases-loop-at
decreases-loop-at l = length l.bytes - l.at
