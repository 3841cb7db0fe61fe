use Rattle.small_base.proofs.Refuting.{closed_refutes}
use Rattle.small_base.proofs.laws.closed_refutes.Goals as goal

pub returns : goal.returns
returns c = closed_refutes
