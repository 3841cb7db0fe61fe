use Rattle.std.proofs.Common.{◌≡◌, ◌++◌, length}
use Rattle.std.specs.Prelude.{map}
use Rattle.std.specs.List.{AllByRecursion}
use Rattle.pq_text.specs.Spans.{IsSpan}
use Rattle.pq_text.specs.Standing.{lexeme_for}
use Rattle.pq_text.proofs.stand.lexemes.Given as goal

abbrev pub invariant-loop-left : goal.invariant-loop-left
invariant-loop-left l = AllByRecursion (IsSpan l.text) l.left × (l.list ++ map (lexeme_for l.text) l.left ≡ map (lexeme_for l.text) l.tokens)

abbrev pub decreases-loop-left : goal.decreases-loop-left
decreases-loop-left l = length l.left
