use Rattle.shared_rounds.proofs.Turning.{alone}
use Rattle.shared_rounds.proofs.laws.alone.Goals as goal

pub returns : goal.returns
returns c = alone
