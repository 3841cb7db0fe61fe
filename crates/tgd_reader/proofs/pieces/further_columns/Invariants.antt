use Rattle.std.proofs.Common.{◌≡◌, ◌++◌, length}
use Rattle.pq_text.specs.Utf8.{KeepsUtf8}
use Rattle.pq_text.specs.Pieces.{text_of, further_pieces}
use Rattle.tgd_reader.specs.Printed.{with_sorts, column_pieces}
use Rattle.tgd_reader.proofs.pieces.further_columns.Given as goal

abbrev pub invariant-loop-left : goal.invariant-loop-left
invariant-loop-left l = record {
  written : l.out.items ++ text_of (further_pieces column_pieces (with_sorts l.left l.others)) ≡ l.fn.out.items ++ text_of (further_pieces column_pieces (with_sorts l.columns l.sorts));
  utf8 : KeepsUtf8 l.fn.out.items l.out.items;
}

abbrev pub decreases-loop-left : goal.decreases-loop-left
decreases-loop-left l = length l.left
