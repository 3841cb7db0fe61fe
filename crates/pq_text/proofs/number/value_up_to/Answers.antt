use Rattle.pq_text.proofs.Digits.{value_capped}
use Rattle.pq_text.proofs.number.value_up_to.Goals as goal

pub returns : goal.returns
returns c = value_capped c.args.limit c.args.digits.now c.loop-left.left.now c.loop-left.value c.in_default.len_below c.loop-left.invariant.1
