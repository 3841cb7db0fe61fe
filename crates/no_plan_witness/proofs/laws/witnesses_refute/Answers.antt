use Rattle.no_plan_witness.proofs.Refuting.{witnesses_refute}
use Rattle.no_plan_witness.proofs.laws.witnesses_refute.Goals as goal

pub returns : goal.returns
returns c = witnesses_refute
