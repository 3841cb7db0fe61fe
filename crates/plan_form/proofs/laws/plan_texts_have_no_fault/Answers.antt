use Rattle.plan_form.proofs.TextLaws.{no_fault}
use Rattle.plan_form.proofs.laws.plan_texts_have_no_fault.Goals as goal

pub returns : goal.returns
returns c = no_fault
