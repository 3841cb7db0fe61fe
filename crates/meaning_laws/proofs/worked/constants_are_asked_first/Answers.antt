use Rattle.meaning_laws.proofs.StaffCrawl.{constant_is_asked}
use Rattle.meaning_laws.proofs.worked.constants_are_asked_first.Goals as goal

pub returns : goal.returns
returns c = constant_is_asked
