use Rattle.meaning_laws.proofs.Witness.{witness_refutes}
use Rattle.meaning_laws.proofs.laws.witness_refutes.Goals as goal

pub returns : goal.returns
returns c = witness_refutes
