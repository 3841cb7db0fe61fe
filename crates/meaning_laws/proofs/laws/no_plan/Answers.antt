use Rattle.meaning_laws.proofs.Monotone.{no_plan_lem}
use Rattle.meaning_laws.proofs.laws.no_plan.Goals as goal

pub returns : goal.returns
returns c = no_plan_lem
