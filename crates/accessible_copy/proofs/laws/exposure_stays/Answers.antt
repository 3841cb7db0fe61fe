use Rattle.accessible_copy.proofs.BaseStaysMet.{exposure_stays}
use Rattle.accessible_copy.proofs.laws.exposure_stays.Goals as goal

pub returns : goal.returns
returns c = exposure_stays
