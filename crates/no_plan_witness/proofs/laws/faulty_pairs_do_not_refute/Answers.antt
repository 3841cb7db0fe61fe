use Rattle.no_plan_witness.proofs.Judging.{faulty}
use Rattle.no_plan_witness.proofs.laws.faulty_pairs_do_not_refute.Goals as goal

pub returns : goal.returns
returns c = faulty
