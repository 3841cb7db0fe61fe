use Rattle.std.proofs.Common.{◌≡◌, ◌≤◌, ◌-◌, List, ℕ, length}
use Rattle.std.specs.List.{AllByRecursion}
use Rattle.csv.specs.Records.{fields_of}
use Rattle.row_text.specs.Packed.{AreEnds, values_of}
use Rattle.row_text.proofs.Widths.{AreBehind}
use Rattle.row_text.proofs.packed.PackedRows.of_width.Given as goal

-- the first rows end at the ends so far, and the others lie behind the last one
abbrev pub invariant-loop-end : goal.invariant-loop-end
invariant-loop-end l = record {
  within : l.end ≤ length (fields_of l.fn.values);
  are : AreEnds 0 l.ends.items l.end;
  rows : (rows : List (List (List ℕ))) → values_of rows ≡ fields_of l.fn.values → AllByRecursion (λ row. length row ≡ l.width) rows
      → AreBehind l.width (fields_of l.fn.values) l.ends.items l.end rows;
}

abbrev pub decreases-loop-end : goal.decreases-loop-end
decreases-loop-end l = l.count - l.end
