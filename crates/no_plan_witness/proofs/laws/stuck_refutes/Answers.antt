use Rattle.no_plan_witness.proofs.Refuting.{stuck_refutes}
use Rattle.no_plan_witness.proofs.laws.stuck_refutes.Goals as goal

pub returns : goal.returns
returns c = stuck_refutes
