use Rattle.plan_form.proofs.Faultless.{no_fault}
use Rattle.plan_form.proofs.laws.lawful_plans_have_no_fault.Goals as goal

pub returns : goal.returns
returns c = no_fault
