use Rattle.integer_laws.proofs.Rivals.{branch_exposes}
use Rattle.integer_laws.proofs.laws.branch_exposes.Goals as goal

pub returns : goal.returns
returns c = branch_exposes
