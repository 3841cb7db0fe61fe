use Rattle.std.proofs.Common.{length}
use Rattle.std.specs.Prelude.{map}
use Rattle.pq_text.specs.Pieces.{lines_text}
use Rattle.tgd_reader.specs.Printed.{source_part, part_pieces}
use Rattle.tgd_reader.specs.Printing.{IsSourcePlaced}
use Rattle.tgd_reader.proofs.Loops.{IsPrintingPlaced}
use Rattle.tgd_reader.proofs.print.print_sources.Given as goal

abbrev pub invariant-loop-left : goal.invariant-loop-left
invariant-loop-left l = IsPrintingPlaced (IsSourcePlaced l.relations) l.sources l.left l.fn.out.items l.out.items (λ xs. lines_text (map part_pieces (map (source_part l.relations) xs)))

abbrev pub decreases-loop-left : goal.decreases-loop-left
decreases-loop-left l = length l.left
