use Rattle.meaning_laws.proofs.Running.{run_once}
use Rattle.meaning_laws.proofs.laws.run_once.Goals as goal

pub returns : goal.returns
returns c = run_once
