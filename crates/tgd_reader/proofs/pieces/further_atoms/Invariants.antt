use Rattle.std.proofs.Common.{length}
use Rattle.std.specs.Prelude.{map}
use Rattle.pq_text.specs.Pieces.{text_of, further_pieces}
use Rattle.tgd_reader.specs.Printed.{atom_pieces, named_atom}
use Rattle.tgd_reader.specs.Printing.{IsPlaced}
use Rattle.tgd_reader.proofs.Loops.{IsPrintingPlaced}
use Rattle.tgd_reader.proofs.pieces.further_atoms.Given as goal

abbrev pub invariant-loop-left : goal.invariant-loop-left
invariant-loop-left l = IsPrintingPlaced (IsPlaced l.relations) l.list l.left l.fn.out.items l.out.items (λ xs. text_of (further_pieces atom_pieces (map (named_atom l.relations) xs)))

abbrev pub decreases-loop-left : goal.decreases-loop-left
decreases-loop-left l = length l.left
