use Rattle.no_plan_witness.proofs.Refuting.{witnesses_sorted}
use Rattle.no_plan_witness.proofs.laws.witnesses_sorted.Goals as goal

pub returns : goal.returns
returns c = witnesses_sorted
