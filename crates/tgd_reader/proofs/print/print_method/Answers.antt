use Rattle.std.proofs.lemmas.Result.{on_ok_weaker}
use Rattle.std.proofs.Common.{◌≡◌, ℕ, List, [], ap, subst, ◌∙◌}
use Rattle.std.specs.Prelude.{map, slice_index_or}
use Rattle.tgd_reader.specs.Printed.{listing_pieces}
use Rattle.tgd_reader.specs.Printing.{Writes}
use Rattle.tgd_reader.proofs.Writing.{method_written}
use Rattle.tgd_reader.proofs.print.print_method.Goals as goal

pub returns-clause-written : goal.returns-clause-written
returns-clause-written c =
    let columns = c.relation_at-relation.result.now.columns in
    let places = c.args.method.now.inputs in
    let names : c.in_ok-inputs.inputs ≡ map (λ place. slice_index_or c.as_slice.result.now place []) c.as_slice-2.result.now = c.in_ok-inputs.ensures in
    let inputs : c.in_ok-inputs.inputs ≡ map (λ place. slice_index_or columns place []) places =
    names ∙ ap (λ (cs : List (List ℕ)). map (λ place. slice_index_or cs place []) c.as_slice-2.result.now) c.as_slice.ensures ∙ ap (λ (ps : List ℕ). map (λ place. slice_index_or columns place []) ps) c.as_slice-2.ensures in
    let listed = subst (λ (xs : List (List ℕ)). Writes c.word-2.new.out.items c.listing.new.out.items (listing_pieces c.relation_at-relation.result.now.name xs)) c.as_slice-3.ensures c.in_ok-listing.ensures.written in
    on_ok_weaker c.end_line.result
    (λ ended. method_written c.args.relations.now c.args.method.now c.relation_at-relation.result.now c.in_ok-inputs.inputs c.args.out.now.items c.word.new.out.items c.name.new.out.items c.word-2.new.out.items c.listing.new.out.items c.word-3.new.out.items c.number.new.out.items c.end_line.new.out.items
    c.relation_at-relation.ensures inputs c.in_ok-word.ensures.written c.in_ok-name.ensures.written c.in_ok-word-2.ensures.written listed c.in_ok-word-3.ensures.written c.in_ok-number.ensures.written ended)
    c.end_line.ensures.written

pub returns-clause-utf8 : goal.returns-clause-utf8
returns-clause-utf8 c = on_ok_weaker c.end_line.result
    (λ ended utf8.
    let on = c.in_ok-word-2.ensures.utf8 (c.in_ok-name.ensures.utf8 (c.in_ok-word.ensures.utf8 utf8)) in
    ended (c.in_ok-number.ensures.utf8 (c.in_ok-word-3.ensures.utf8 (c.in_ok-listing.ensures.utf8 on))))
    c.end_line.ensures.utf8
