use Rattle.std.proofs.Common.{◌≡◌, ◌≤◌, length}
use Rattle.std.specs.List.{AllByRecursion}
use Rattle.pq_text.specs.Spans.{IsSpan}
use Rattle.sql_select.specs.Words.{pieces_of}
use Rattle.sql_select.specs.Reading.{started, read}
use Rattle.sql_select.specs.declared.state.State.TheVariants as state
use Rattle.sql_select.proofs.reading.read_tokens.Given as goal

-- what is left is read on as the whole is read
abbrev pub invariant-loop-left : goal.invariant-loop-left
invariant-loop-left l = record { spans : AllByRecursion (IsSpan l.text) l.left; few : length l.left ≤ length l.tokens; reads : read l.state l.walk (pieces_of l.text l.left) ≡ read state.Start started (pieces_of l.text l.tokens) }

abbrev pub decreases-loop-left : goal.decreases-loop-left
decreases-loop-left l = length l.left
