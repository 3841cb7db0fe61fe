use Rattle.meaning_laws.proofs.StaffPlans.{other_name_does_not_answer}
use Rattle.meaning_laws.proofs.worked.other_name_does_not_answer.Goals as goal

pub returns : goal.returns
returns c = other_name_does_not_answer
