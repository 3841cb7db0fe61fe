use Rattle.exposure_search.proofs.Explored.{least_found}
use Rattle.exposure_search.proofs.laws.least_by_walks.Goals as goal

pub returns : goal.returns
returns c = least_found
