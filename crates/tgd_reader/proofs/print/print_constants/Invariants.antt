use Rattle.std.proofs.Common.{length}
use Rattle.std.specs.Prelude.{map}
use Rattle.pq_text.specs.Pieces.{lines_text}
use Rattle.access_schema.specs.declared.part.Part.TheVariants.{Constant}
use Rattle.tgd_reader.specs.Printed.{part_pieces}
use Rattle.tgd_reader.proofs.Loops.{IsPrinting}
use Rattle.tgd_reader.proofs.print.print_constants.Given as goal

abbrev pub invariant-loop-left : goal.invariant-loop-left
invariant-loop-left l = IsPrinting l.constants l.left l.fn.out.items l.out.items (λ xs. lines_text (map part_pieces (map Constant xs)))

abbrev pub decreases-loop-left : goal.decreases-loop-left
decreases-loop-left l = length l.left
