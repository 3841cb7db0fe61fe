use Rattle.std.proofs.Common.{true, List, sym, subst, arith, take, drop, ◌-◌, length}
use Rattle.std.specs.Prelude.{map}
use Rattle.std.proofs.lemmas.Result.{on_ok_weaker}
use Rattle.meaning.specs.declared.types.Atom.{Atom}
use Rattle.pq_text.specs.Pieces.{list_pieces, further_pieces}
use Rattle.tgd_reader.specs.Printed.{atom_pieces, named_atom}
use Rattle.tgd_reader.specs.Printing.{Writes}
use Rattle.lists.proofs.Places.{split_first}
use Rattle.tgd_reader.proofs.Writing.{writes_then}
use Rattle.tgd_reader.proofs.pieces.atoms.Goals as goal

pub returns-in_ok-atom-in-len1-up-clause-written : goal.returns-in_ok-atom-in-len1-up-clause-written
returns-in_ok-atom-in-len1-up-clause-written c =
    let first = c.first-item.result in
    let list = c.args.list.now in
    let relations = c.args.relations.now in
    let split = split_first list first (let some = c.in-len1-up.len_at_least in omega arith) c.first-item.is in
    on_ok_weaker c.further_atoms.result
    (λ more. subst (λ (xs : List Atom). Writes c.args.out.now.items c.further_atoms.new.out.items (list_pieces atom_pieces true (map (named_atom relations) xs))) (sym split)
    (writes_then c.args.out.now.items c.atom.new.out.items c.further_atoms.new.out.items (atom_pieces true (named_atom relations first)) (further_pieces atom_pieces (map (named_atom relations) (take (length list - 1) (drop 1 list)))) c.in_ok-atom-in-len1-up.ensures.written more))
    c.further_atoms.ensures.written
