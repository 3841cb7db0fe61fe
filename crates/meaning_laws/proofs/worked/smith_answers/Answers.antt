use Rattle.meaning_laws.proofs.StaffPlans.{smith_answers}
use Rattle.meaning_laws.proofs.worked.smith_answers.Goals as goal

pub returns : goal.returns
returns c = smith_answers
