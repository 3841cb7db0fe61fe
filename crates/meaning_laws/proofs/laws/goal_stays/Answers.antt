use Rattle.meaning_laws.proofs.Resting.{goal_stays}
use Rattle.meaning_laws.proofs.laws.goal_stays.Goals as goal

pub returns : goal.returns
returns c = goal_stays
