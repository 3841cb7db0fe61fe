use Rattle.std.proofs.Common.{◌≡◌, ◌≤◌, ◌-◌, drop, length}
use Rattle.row_text.specs.RowText.{row_cmp}
use Rattle.row_text.proofs.lent.compare.Given as goal

-- the rows are equal so far, and so compare as what is left of them
abbrev pub invariant-loop-value : goal.invariant-loop-value
invariant-loop-value l = record {
  left : l.column ≤ length l.left;
  right : l.column ≤ length l.right;
  same : row_cmp l.left l.right ≡ row_cmp (drop l.column l.left) (drop l.column l.right);
}

abbrev pub decreases-loop-value : goal.decreases-loop-value
decreases-loop-value l = length l.left - l.column
