use Rattle.exposure_search.proofs.Explored.{goals_grown}
use Rattle.exposure_search.proofs.laws.goals_grow.Goals as goal

pub returns : goal.returns
returns c = goals_grown
