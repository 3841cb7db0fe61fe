use Rattle.meaning_laws.proofs.Costing.{branch_cost}
use Rattle.meaning_laws.proofs.laws.branch_cost.Goals as goal

pub returns : goal.returns
returns c = branch_cost
