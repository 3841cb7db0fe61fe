use Rattle.std.proofs.Common.{◌∙◌, sym}
use Rattle.lists.proofs.Orders.{rows_same_equal}
use Rattle.middleware.proofs.by_request.are_same.Goals as goal

pub returns : goal.returns
returns c = λ yes. rows_same_equal c.args.row.now c.args.other.now (sym c.eq.ensures ∙ yes)
