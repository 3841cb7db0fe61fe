use Rattle.meaning_laws.proofs.Everywhere.{goal_everywhere}
use Rattle.meaning_laws.proofs.laws.goal_everywhere.Goals as goal

pub returns : goal.returns
returns c = goal_everywhere
