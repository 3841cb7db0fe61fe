use Rattle.meaning_laws.proofs.Decided.{run_extracts}
use Rattle.meaning_laws.proofs.laws.run_extracts.Goals as goal

pub returns : goal.returns
returns c = run_extracts
