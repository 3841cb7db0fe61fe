use Rattle.lists.proofs.Digits.{past_limit}
use Rattle.lists.proofs.decimals.value_within.Goals as goal

pub returns-in_err-value : goal.returns-in_err-value
returns-in_err-value c =
    let so_far = c.loop-left.invariant in
    rw c.from_residual.ensures
    (past_limit c.args.digits.now c.loop-left.left.now c.loop-left.value c.args.limit c.in-len1-up.len_at_least
    c.in_err-value.ensures so_far.digits so_far.value)
