use Rattle.row_text.proofs.Orders.{ascending_unique}
use Rattle.row_text.proofs.laws.ascending_is_unique.Goals as goal

pub returns : goal.returns
returns c = ascending_unique
