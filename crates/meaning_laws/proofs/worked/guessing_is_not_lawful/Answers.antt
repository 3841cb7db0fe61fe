use Rattle.meaning_laws.proofs.StaffPlans.{guessing_is_not_lawful}
use Rattle.meaning_laws.proofs.worked.guessing_is_not_lawful.Goals as goal

pub returns : goal.returns
returns c = guessing_is_not_lawful
