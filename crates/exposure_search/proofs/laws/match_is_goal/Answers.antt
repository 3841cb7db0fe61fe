use Rattle.exposure_search.proofs.Explored.{match_goal}
use Rattle.exposure_search.proofs.laws.match_is_goal.Goals as goal

pub returns : goal.returns
returns c = match_goal
