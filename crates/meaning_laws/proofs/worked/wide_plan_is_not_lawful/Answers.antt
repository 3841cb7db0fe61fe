use Rattle.meaning_laws.proofs.StaffPlans.{wide_is_not_lawful}
use Rattle.meaning_laws.proofs.worked.wide_plan_is_not_lawful.Goals as goal

pub returns : goal.returns
returns c = wide_is_not_lawful
