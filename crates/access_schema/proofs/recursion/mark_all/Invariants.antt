use Rattle.std.proofs.Common.{◌≡◌, ◌<◌, length}
use Rattle.std.specs.Prelude.{All}
use Rattle.access_schema.specs.Marks.{with_marks}
use Rattle.access_schema.proofs.recursion.mark_all.Given as goal

-- the marks are those that the numbers that are left still lack
abbrev pub invariant-loop-left : goal.invariant-loop-left
invariant-loop-left l = record { marks : with_marks l.fn.marks.items l.numbers ≡ with_marks l.marks.items l.left; below : All (λ number. number < length l.marks.items) l.left }

abbrev pub decreases-loop-left : goal.decreases-loop-left
decreases-loop-left l = length l.left
