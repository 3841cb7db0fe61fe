use Rattle.shared_rounds.proofs.Rounding.{all_rounds}
use Rattle.shared_rounds.proofs.laws.all_rounds.Goals as goal

pub returns : goal.returns
returns c = all_rounds
