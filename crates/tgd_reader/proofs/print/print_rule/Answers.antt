use Rattle.std.proofs.lemmas.Result.{on_ok_weaker}
use Rattle.std.proofs.Common.{true, List, subst}
use Rattle.std.specs.Prelude.{map}
use Rattle.meaning.specs.declared.types.Atom.{Atom}
use Rattle.pq_text.specs.Pieces.{list_pieces}
use Rattle.tgd_reader.specs.Printed.{atom_pieces, named_atom}
use Rattle.tgd_reader.specs.Printing.{Writes}
use Rattle.tgd_reader.proofs.Writing.{rule_written}
use Rattle.tgd_reader.proofs.print.print_rule.Goals as goal

pub returns-clause-written : goal.returns-clause-written
returns-clause-written c =
    let body = subst (λ (atoms : List Atom). Writes c.word.new.out.items c.atoms.new.out.items (list_pieces atom_pieces true (map (named_atom c.args.relations.now) atoms))) c.as_slice.ensures c.in_ok-atoms.ensures.written in
    let head = subst (λ (atoms : List Atom). Writes c.mark.new.out.items c.atoms-2.new.out.items (list_pieces atom_pieces true (map (named_atom c.args.relations.now) atoms))) c.as_slice-2.ensures c.in_ok-atoms-2.ensures.written in
    on_ok_weaker c.end_line.result
    (λ ended. rule_written c.args.rule.now.line (map (named_atom c.args.relations.now) c.args.rule.now.body) (map (named_atom c.args.relations.now) c.args.rule.now.head)
    c.args.out.now.items c.word.new.out.items c.atoms.new.out.items c.mark.new.out.items c.atoms-2.new.out.items c.end_line.new.out.items c.in_ok-word.ensures.written body c.in_ok-mark.ensures.written head ended)
    c.end_line.ensures.written
