use Rattle.std.proofs.Common.{◌≡◌, ◌≤◌, ◌-◌, drop, length, map}
use Rattle.row_text.specs.RowText.{row_cmp}
use Rattle.middleware.proofs.partial_rows.compare.Given as goal

-- the rows are equal so far, and so compare as what is left of them
abbrev pub invariant-loop-value : goal.invariant-loop-value
invariant-loop-value l = record {
  left : l.column ≤ length l.row;
  right : l.column ≤ length (map (λ s. s.now) l.texts);
  same : row_cmp l.row (map (λ s. s.now) l.texts) ≡ row_cmp (drop l.column l.row) (drop l.column (map (λ s. s.now) l.texts));
}

abbrev pub decreases-loop-value : goal.decreases-loop-value
decreases-loop-value l = length l.row - l.column
