use Rattle.std.proofs.Common.{ℕ, slice_index_or}
use Rattle.std.proofs.lemmas.Option.{slice_get-get_or}
use Rattle.lists.proofs.Members.{contains_got}
use Rattle.connected_match.proofs.chain.carried.Goals as goal

pub bounds-firsts-variable : goal.bounds-firsts-variable
bounds-firsts-variable c =
    let variable : ℕ = slice_index_or c.args.variables.now c.loop-variable.variable-index 0 in
    c.requires variable (contains_got c.args.variables.now c.loop-variable.variable-index variable (slice_get-get_or c.args.variables.now c.loop-variable.variable-index 0 c.loop-variable-test.true))
