use Rattle.meaning_laws.proofs.StaffOffice.{unlisted_breaks_the_rule}
use Rattle.meaning_laws.proofs.worked.unlisted_breaks_the_rule.Goals as goal

pub returns : goal.returns
returns c = unlisted_breaks_the_rule
