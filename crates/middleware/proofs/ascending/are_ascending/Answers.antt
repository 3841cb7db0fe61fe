use Rattle.std.proofs.Common.{[], arith}
use Rattle.std.proofs.lemmas.Map.Keys.{sorted_from_all_adjacent}
use Rattle.lists.proofs.Orders.{rows_total}
use Rattle.middleware.proofs.ascending.are_ascending.Goals as goal

pub returns : goal.returns
returns c = λ yes. sorted_from_all_adjacent rows_total c.args.rows.now [] (λ k within. c.loop-number.invariant k (omega arith))
