use Rattle.std.proofs.Common.{◌≡◌, ◌++◌, List, subst, arith, take, drop, ◌-◌, length}
use Rattle.std.specs.Prelude.{map}
use Rattle.std.specs.List.{AllByRecursion}
use Rattle.meaning.specs.declared.types.Atom.{Atom}
use Rattle.pq_text.specs.Pieces.{text_of, further_pieces}
use Rattle.tgd_reader.specs.Printed.{atom_pieces, named_atom}
use Rattle.tgd_reader.specs.Printing.{IsPlaced}
use Rattle.lists.proofs.Places.{split_first}
use Rattle.tgd_reader.proofs.Writing.{further_written}
use Rattle.tgd_reader.proofs.pieces.further_atoms.Goals as goal

pub loop-left-preserved : goal.loop-left-preserved
loop-left-preserved c =
    let first = c.first-item.result in
    let left = c.loop-left.left.now in
    let relations = c.args.relations.now in
    let out = c.loop-left.out.items in
    let total = c.args.out.now.items ++ text_of (further_pieces atom_pieces (map (named_atom relations) c.args.list.now)) in
    let split = split_first left first (let some = c.in-len1-up.len_at_least in omega arith) c.first-item.is in
    let here = subst (λ (xs : List Atom). out ++ text_of (further_pieces atom_pieces (map (named_atom relations) xs)) ≡ total) split c.loop-left.invariant.written in
    let placed = subst (λ (xs : List Atom). AllByRecursion (IsPlaced relations) xs) split c.loop-left.invariant.placed in
    record {
      written = further_written atom_pieces (named_atom relations first) (map (named_atom relations) (take (length left - 1) (drop 1 left))) out c.mark.new.out.items c.atom.new.out.items total c.in_ok-mark.ensures.written c.in_ok-atom.ensures.written here;
      placed = placed.1;
      utf8 = λ utf8. c.in_ok-atom.ensures.utf8 (c.in_ok-mark.ensures.utf8 (c.loop-left.invariant.utf8 utf8));
    }
