use Rattle.meaning_laws.proofs.StaffPlans.{smiths_plan_has_the_row}
use Rattle.meaning_laws.proofs.worked.smiths_plan_has_the_row.Goals as goal

pub returns : goal.returns
returns c = smiths_plan_has_the_row
