use Rattle.meaning_laws.proofs.StaffRequests.{smiths_plan_asks_three}
use Rattle.meaning_laws.proofs.worked.smiths_plan_asks_three.Goals as goal

pub returns : goal.returns
returns c = smiths_plan_asks_three
