use Rattle.exposure_search.proofs.Explored.{tries_within}
use Rattle.exposure_search.proofs.laws.runs_bound_tries.Goals as goal

pub returns : goal.returns
returns c = tries_within
