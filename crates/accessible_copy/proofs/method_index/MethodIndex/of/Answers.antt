use Rattle.std.proofs.Common.{◌≡◌, ◌+◌, ◌++◌, ◌∷◌, [], ◌≤◌, Some, length, take, subst, sym, arith}
use Rattle.std.specs.Prelude.{slice_get}
use Rattle.std.proofs.lemmas.List.{length-take-le}
use Rattle.lists.proofs.Places.{take_got, got_indexed}
use Rattle.accessible_copy.specs.Methods.{methods_of}
use Rattle.accessible_copy.proofs.MethodLists.{index_more}
use Rattle.accessible_copy.proofs.method_index.MethodIndex.of.Goals as goal

pub loop-number-preserved : goal.loop-number-preserved
loop-number-preserved c =
    let here : slice_get c.args.schema.now.methods c.loop-number.number ≡ Some c.method-item.result = rw (← c.as_slice-method-items.ensures) (got_indexed c.as_slice-method-items.result.now c.loop-number.number c.method-item.result c.loop-number-test.true c.method-item.is) in
    let turn : take (c.loop-number.number + 1) c.args.schema.now.methods ≡ take c.loop-number.number c.args.schema.now.methods ++ c.method-item.result ∷ [] = take_got c.args.schema.now.methods c.loop-number.number c.method-item.result here in
    let low : c.loop-number.number ≤ length c.args.schema.now.methods = rw (← c.as_slice-method-items.ensures) (let t = c.loop-number-test.true in omega arith) in
    let long : c.loop-number.number ≡ length (take c.loop-number.number c.args.schema.now.methods) = sym (length-take-le c.loop-number.number c.args.schema.now.methods low) in
    rw turn
    (index_more (take c.loop-number.number c.args.schema.now.methods) c.method-item.result c.loop-number.numbers.items c.note.new.lists.items c.loop-number.invariant
    (subst (λ n. methods_of c.note.new.lists.items c.method-item.result.rel ≡ methods_of c.loop-number.numbers.items c.method-item.result.rel ++ n ∷ []) long c.in_ok-note.ensures.here) c.in_ok-note.ensures.others)
