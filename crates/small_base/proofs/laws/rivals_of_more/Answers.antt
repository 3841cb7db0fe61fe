use Rattle.small_base.proofs.Refuting.{rivals_of_more}
use Rattle.small_base.proofs.laws.rivals_of_more.Goals as goal

pub returns : goal.returns
returns c = rivals_of_more
