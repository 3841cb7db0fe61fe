use Rattle.batch_laws.proofs.Numbered.{numbered_plan}
use Rattle.batch_laws.proofs.laws.numbered_plans_are_plans.Goals as goal

pub returns : goal.returns
returns c = numbered_plan
