use Rattle.meaning_laws.proofs.Closing.{plan_from_branches}
use Rattle.meaning_laws.proofs.laws.plan_from_branches.Goals as goal

pub returns : goal.returns
returns c = plan_from_branches
