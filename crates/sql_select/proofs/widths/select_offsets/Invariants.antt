use Rattle.std.proofs.Common.{◌≡◌, ◌++◌, length}
use Rattle.std.specs.List.{AllByRecursion}
use Rattle.pq_text.specs.Spans.{IsSpan}
use Rattle.sql_select.specs.Widths.{select_offsets}
use Rattle.sql_select.proofs.widths.select_offsets.Given as goal

-- the words that were passed, and those that are left
abbrev pub invariant-loop-left : goal.invariant-loop-left
invariant-loop-left l = record { spans : AllByRecursion (IsSpan l.text) l.left; done : l.offsets ++ select_offsets l.text l.left ≡ select_offsets l.text l.tokens }

abbrev pub decreases-loop-left : goal.decreases-loop-left
decreases-loop-left l = length l.left
