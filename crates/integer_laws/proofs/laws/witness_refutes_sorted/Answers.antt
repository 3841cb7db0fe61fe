use Rattle.integer_laws.proofs.Instances.{witness_refutes_sorted}
use Rattle.integer_laws.proofs.laws.witness_refutes_sorted.Goals as goal

pub returns : goal.returns
returns c = witness_refutes_sorted
