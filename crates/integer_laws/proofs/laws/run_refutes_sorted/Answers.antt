use Rattle.integer_laws.proofs.Instances.{run_refutes_sorted}
use Rattle.integer_laws.proofs.laws.run_refutes_sorted.Goals as goal

pub returns : goal.returns
returns c = run_refutes_sorted
