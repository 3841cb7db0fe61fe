use Rattle.meaning_laws.proofs.StaffOffice.{profile_is_accessible}
use Rattle.meaning_laws.proofs.worked.profile_is_accessible.Goals as goal

pub returns : goal.returns
returns c = profile_is_accessible
