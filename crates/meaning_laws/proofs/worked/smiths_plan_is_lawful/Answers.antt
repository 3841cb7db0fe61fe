use Rattle.meaning_laws.proofs.StaffPlans.{smiths_plan_is_lawful}
use Rattle.meaning_laws.proofs.worked.smiths_plan_is_lawful.Goals as goal

pub returns : goal.returns
returns c = smiths_plan_is_lawful
