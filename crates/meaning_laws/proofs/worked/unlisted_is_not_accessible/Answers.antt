use Rattle.meaning_laws.proofs.StaffOffice.{unlisted_is_not_accessible}
use Rattle.meaning_laws.proofs.worked.unlisted_is_not_accessible.Goals as goal

pub returns : goal.returns
returns c = unlisted_is_not_accessible
