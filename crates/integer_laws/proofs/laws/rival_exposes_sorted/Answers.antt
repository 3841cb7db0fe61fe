use Rattle.integer_laws.proofs.Rivals.{rival_exposes_sorted}
use Rattle.integer_laws.proofs.laws.rival_exposes_sorted.Goals as goal

pub returns : goal.returns
returns c = rival_exposes_sorted
