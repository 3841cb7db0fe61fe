use Rattle.meaning_laws.proofs.Kept.{run_refutes}
use Rattle.meaning_laws.proofs.laws.run_refutes.Goals as goal

pub returns : goal.returns
returns c = run_refutes
