use Rattle.exposure_search.proofs.MovesFrom.{AreMarkedTo}
use Rattle.exposure_search.proofs.marks.marked_numbers.Given as goal

-- those of the first marks
abbrev pub invariant-loop-number : goal.invariant-loop-number
invariant-loop-number l = AreMarkedTo l.marks l.number l.numbers.items
