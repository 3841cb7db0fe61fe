use Rattle.std.proofs.Common.{length}
use Rattle.std.specs.Prelude.{map}
use Rattle.pq_text.specs.Pieces.{text_of, further_pieces}
use Rattle.tgd_reader.specs.Printed.{term_pieces, named_term}
use Rattle.tgd_reader.proofs.Loops.{IsPrinting}
use Rattle.tgd_reader.proofs.pieces.further_terms.Given as goal

abbrev pub invariant-loop-left : goal.invariant-loop-left
invariant-loop-left l = IsPrinting l.list l.left l.fn.out.items l.out.items (λ xs. text_of (further_pieces term_pieces (map named_term xs)))

abbrev pub decreases-loop-left : goal.decreases-loop-left
decreases-loop-left l = length l.left
