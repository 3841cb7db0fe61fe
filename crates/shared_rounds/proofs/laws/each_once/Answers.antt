use Rattle.shared_rounds.proofs.Rounding.{each_once}
use Rattle.shared_rounds.proofs.laws.each_once.Goals as goal

pub returns : goal.returns
returns c = each_once
