use Rattle.exposure_search.proofs.Explored.{node_exposes}
use Rattle.exposure_search.proofs.laws.match_exposes.Goals as goal

pub returns : goal.returns
returns c = node_exposes
