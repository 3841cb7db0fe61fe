use Rattle.meaning_laws.proofs.StaffPlans.{smiths_plan_costs_seven}
use Rattle.meaning_laws.proofs.worked.smiths_plan_costs_seven.Goals as goal

pub returns : goal.returns
returns c = smiths_plan_costs_seven
