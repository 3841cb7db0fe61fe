use Rattle.std.proofs.Common.{◌≡◌, ◌+◌, length}
use Rattle.csv.specs.Records.{fields_of}
use Rattle.csv_sources.specs.DataFile.{bad_column}
use Rattle.csv_sources.proofs.header.bad_column.Given as goal

-- what is left decides
abbrev pub invariant-loop-left : goal.invariant-loop-left
invariant-loop-left l = record {
  same : bad_column (fields_of l.header) 0 l.columns ≡ bad_column (fields_of l.header) l.column l.left;
  count : l.column + length l.left ≡ length l.columns;
}

abbrev pub decreases-loop-left : goal.decreases-loop-left
decreases-loop-left l = length l.left
