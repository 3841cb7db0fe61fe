use Rattle.std.proofs.lemmas.Result.{on_ok_weaker}
use Rattle.tgd_reader.proofs.Writing.{atom_written}
use Rattle.std.proofs.Common.{false, List, subst}
use Rattle.std.specs.Prelude.{map}
use Rattle.meaning.specs.declared.types.Term.{Term}
use Rattle.pq_text.specs.Pieces.{list_pieces}
use Rattle.tgd_reader.specs.Printed.{term_pieces, named_term}
use Rattle.tgd_reader.specs.Printing.{Writes}
use Rattle.tgd_reader.proofs.pieces.atom.Goals as goal

pub returns-clause-written : goal.returns-clause-written
returns-clause-written c =
    let terms = subst (λ (ts : List Term). Writes c.mark.new.out.items c.terms.new.out.items (list_pieces term_pieces false (map named_term ts))) c.as_slice.ensures c.in_ok-terms.ensures.written in
    on_ok_weaker c.mark-2.result
    (λ closed. atom_written c.args.relations.now c.args.atom.now c.relation_at.result.now c.args.spaced c.args.out.now.items c.name.new.out.items c.mark.new.out.items c.terms.new.out.items c.mark-2.new.out.items c.relation_at.ensures c.in_ok-name.ensures.written c.in_ok-mark.ensures.written terms closed)
    c.mark-2.ensures.written
