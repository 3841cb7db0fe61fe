use Rattle.std.proofs.Common.{map, arith}
use Rattle.middleware.proofs.Orders.{not_among}
use Rattle.middleware.proofs.partial_rows.is_gap.Goals as goal

pub returns : goal.returns
returns c = λ yes. not_among c.args.rows.now (map (λ s. s.now) c.args.values.now) c.args.place c.args.place (omega arith) (c.are_below.ensures yes) (c.are_above.ensures c.if-not-are_above.false)
