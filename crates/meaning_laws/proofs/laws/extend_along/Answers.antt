use Rattle.meaning_laws.proofs.Carrying.{extend_run}
use Rattle.meaning_laws.proofs.laws.extend_along.Goals as goal

pub returns : goal.returns
returns c = extend_run
