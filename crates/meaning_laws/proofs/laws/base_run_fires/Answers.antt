use Rattle.meaning_laws.proofs.Carrying.{run_fires}
use Rattle.meaning_laws.proofs.laws.base_run_fires.Goals as goal

pub returns : goal.returns
returns c = run_fires
