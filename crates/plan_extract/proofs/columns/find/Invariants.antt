use Rattle.std.proofs.Common.{◌≡◌, ◌+◌, length}
use Rattle.meaning.specs.Extract.{column_of}
use Rattle.plan_extract.proofs.Counting.{counted}
use Rattle.plan_extract.proofs.columns.find.Given as goal

abbrev pub decreases-loop-left : goal.decreases-loop-left
decreases-loop-left l = length l.left

-- the column is found among those that are left
abbrev pub invariant-loop-left : goal.invariant-loop-left
invariant-loop-left l = record {
  here : column_of l.labels l.label ≡ counted l.column (column_of l.left l.label);
  number : l.column + length l.left ≡ length l.labels;
}
