use Rattle.meaning_laws.proofs.Rivals.{least_by_exposures}
use Rattle.meaning_laws.proofs.laws.least_by_exposures.Goals as goal

pub returns : goal.returns
returns c = least_by_exposures
