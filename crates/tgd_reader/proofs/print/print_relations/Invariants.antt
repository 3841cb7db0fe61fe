use Rattle.std.proofs.Common.{length}
use Rattle.std.specs.Prelude.{map}
use Rattle.pq_text.specs.Pieces.{lines_text}
use Rattle.tgd_reader.specs.Printed.{relation_part, part_pieces}
use Rattle.tgd_reader.proofs.Loops.{IsPrinting}
use Rattle.tgd_reader.proofs.print.print_relations.Given as goal

abbrev pub invariant-loop-left : goal.invariant-loop-left
invariant-loop-left l = IsPrinting l.relations l.left l.fn.out.items l.out.items (λ xs. lines_text (map part_pieces (map relation_part xs)))

abbrev pub decreases-loop-left : goal.decreases-loop-left
decreases-loop-left l = length l.left
