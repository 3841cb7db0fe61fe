use Rattle.std.proofs.Common.{◌∙◌, ◌∷◌, ◌++◌, [], ℕ, arith, ap, sym, slice_index_or}
use Rattle.std.proofs.lemmas.List.FromFn.{map-range_with_len_more}
use Rattle.meaning.specs.declared.types.Val.{Val}
use Rattle.homomorphism.specs.Bindings.{at, values_of}
use Rattle.homomorphism.specs.Walks.{picked_of}
use Rattle.homomorphism.proofs.walk.brought_together.Goals as goal

pub loop-variable-preserved : goal.loop-variable-preserved
loop-variable-preserved c =
    let f = λ (x : ℕ). at (picked_of c.args.lists.now c.args.numbers.now (slice_index_or c.args.owners.now x 0)).vals x in
    c.in_ok-push.ensures.items ∙ ap (λ z. z ++ c.in_ok-value.value ∷ []) c.loop-variable.invariant
    ∙ ap (λ (v : Val). values_of c.loop-variable.variable f ++ v ∷ []) c.in_ok-value.ensures
    ∙ sym (map-range_with_len_more f 0 c.loop-variable.variable c.loop-variable.variable (omega arith))
