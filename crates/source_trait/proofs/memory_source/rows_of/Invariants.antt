use Rattle.std.proofs.Common.{◌≡◌, length}
use Rattle.source_trait.specs.Tables.{rows_under}
use Rattle.source_trait.proofs.memory_source.rows_of.Given as goal

abbrev pub invariant-loop-left : goal.invariant-loop-left
invariant-loop-left l = rows_under l.tables l.locator ≡ rows_under l.left l.locator

abbrev pub decreases-loop-left : goal.decreases-loop-left
decreases-loop-left l = length l.left
