use Rattle.std.proofs.Common.{◌≡◌, ◌∙◌, Some, None, ap, sym, slice_get, slice_index_or}
use Rattle.std.proofs.lemmas.Option.{slice_get-get_or}
use Rattle.homomorphism.proofs.Walking.{picked_past, picked_none, picked_some}
use Rattle.homomorphism.proofs.walk.picked.Goals as goal

pub returns-then-part-lists-clause-none : goal.returns-then-part-lists-clause-none
returns-then-part-lists-clause-none c = picked_past c.args.lists.now c.args.numbers.now c.args.part c.if-part-lists.true

pub returns-in_default-clause-none : goal.returns-in_default-clause-none
returns-in_default-clause-none c =
    let list : slice_get c.args.lists.now c.args.part ≡ Some c.index-lists-part.result = slice_get-get_or c.args.lists.now c.args.part c.index-lists-part.result c.if-part-lists.false ∙ ap Some (sym c.index-lists-part.is) in
    let none : slice_get c.index-lists-part.result (slice_index_or c.args.numbers.now c.args.part 0) ≡ None = rw c.number_of-number.ensures at (sym c.in_default.ensures) in
    picked_none c.args.lists.now c.args.numbers.now c.args.part c.index-lists-part.result list none

pub returns-clause-some : goal.returns-clause-some
returns-clause-some c =
    let list : slice_get c.args.lists.now c.args.part ≡ Some c.index-lists-part.result = slice_get-get_or c.args.lists.now c.args.part c.index-lists-part.result c.if-part-lists.false ∙ ap Some (sym c.index-lists-part.is) in
    let one : slice_get c.index-lists-part.result (slice_index_or c.args.numbers.now c.args.part 0) ≡ Some c.in-Some.one.now = rw c.number_of-number.ensures at (sym c.in-Some.ensures) in
    picked_some c.args.lists.now c.args.numbers.now c.args.part c.index-lists-part.result c.in-Some.one.now list one
