use Rattle.integer_laws.proofs.Possible.{rival_exposes_possible}
use Rattle.integer_laws.proofs.laws.rival_exposes_possible.Goals as goal

pub returns : goal.returns
returns c = rival_exposes_possible
