use Rattle.std.proofs.Common.{◌∙◌, ◌++◌, ◌∷◌, [], ℕ, ap, slice_index_or}
use Rattle.std.proofs.lemmas.Option.{slice_get-get_or}
use Rattle.lists.proofs.Members.{contains_got}
use Rattle.connected_match.proofs.Linking.{values_next}
use Rattle.connected_match.proofs.chain.values_of.Goals as goal

pub bounds-given-variable : goal.bounds-given-variable
bounds-given-variable c =
    let variable : ℕ = slice_index_or c.args.variables.now c.loop-variable.variable-index 0 in
    c.requires variable (contains_got c.args.variables.now c.loop-variable.variable-index variable (slice_get-get_or c.args.variables.now c.loop-variable.variable-index 0 c.loop-variable-test.true))

pub loop-variable-preserved : goal.loop-variable-preserved
loop-variable-preserved c =
    let variable : ℕ = slice_index_or c.args.variables.now c.loop-variable.variable-index 0 in
    values_next c.args.given.now c.loop-variable.values.items c.push.new.self.items c.args.variables.now c.loop-variable.variable-index c.index-given-variable.result c.loop-variable-test.true
    (c.requires variable (contains_got c.args.variables.now c.loop-variable.variable-index variable (slice_get-get_or c.args.variables.now c.loop-variable.variable-index 0 c.loop-variable-test.true)))
    c.index-given-variable.is c.loop-variable.invariant (c.in_ok-push.ensures.items ∙ ap (λ v. c.loop-variable.values.items ++ v ∷ []) c.in_ok-copy.ensures)
