use Rattle.shared_rounds.proofs.Again.{again}
use Rattle.shared_rounds.proofs.laws.again.Goals as goal

pub returns : goal.returns
returns c = again
