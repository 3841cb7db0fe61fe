use Rattle.meaning_laws.proofs.StaffPlans.{smiths_form}
use Rattle.meaning_laws.proofs.worked.smiths_form.Goals as goal

pub returns : goal.returns
returns c = smiths_form
