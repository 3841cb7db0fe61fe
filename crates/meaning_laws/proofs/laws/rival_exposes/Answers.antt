use Rattle.meaning_laws.proofs.Rivals.{rival_exposes}
use Rattle.meaning_laws.proofs.laws.rival_exposes.Goals as goal

pub returns : goal.returns
returns c = rival_exposes
