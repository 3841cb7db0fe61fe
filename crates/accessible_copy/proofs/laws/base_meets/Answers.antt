use Rattle.accessible_copy.proofs.BaseStaysMet.{base_meets}
use Rattle.accessible_copy.proofs.laws.base_meets.Goals as goal

pub returns : goal.returns
returns c = base_meets
