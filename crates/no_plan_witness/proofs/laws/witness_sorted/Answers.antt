use Rattle.no_plan_witness.proofs.Refuting.{witness_sorted}
use Rattle.no_plan_witness.proofs.laws.witness_sorted.Goals as goal

pub returns : goal.returns
returns c = witness_sorted
