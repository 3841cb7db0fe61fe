use Rattle.integer_laws.proofs.Firings.{run_sorted}
use Rattle.integer_laws.proofs.laws.run_sorted.Goals as goal

pub returns : goal.returns
returns c = run_sorted
