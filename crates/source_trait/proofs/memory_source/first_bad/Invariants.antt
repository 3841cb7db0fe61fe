use Rattle.std.proofs.Common.{◌≡◌, ◌+◌, length}
use Rattle.source_trait.specs.Tables.{bad_row}
use Rattle.source_trait.proofs.memory_source.first_bad.Given as goal

abbrev pub invariant-loop-left : goal.invariant-loop-left
invariant-loop-left l = (l.number + length l.left ≡ length l.rows + 1) × (bad_row l.arity 1 l.rows ≡ bad_row l.arity l.number l.left)

abbrev pub decreases-loop-left : goal.decreases-loop-left
decreases-loop-left l = length l.left
