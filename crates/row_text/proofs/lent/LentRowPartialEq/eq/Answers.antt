use Rattle.std.proofs.Common.{◌∙◌, sym, ap}
use Rattle.std.specs.Ordering.{is_eq}
use Rattle.lists.proofs.Orders.{rows_ties}
use Rattle.row_text.proofs.lent.LentRowPartialEq.eq.Goals as goal

pub returns : goal.returns
returns c = c.is_eq.ensures ∙ ap is_eq c.compare.ensures ∙ sym (rows_ties c.args.self.now c.args.other.now)
