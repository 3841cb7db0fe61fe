use Rattle.meaning_laws.proofs.StaffRun.{smiths_plan_is_equivalent}
use Rattle.meaning_laws.proofs.worked.smiths_plan_is_equivalent.Goals as goal

pub returns : goal.returns
returns c = smiths_plan_is_equivalent
