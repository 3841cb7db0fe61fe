use Rattle.integer_laws.proofs.Products.{possible_goals}
use Rattle.integer_laws.proofs.laws.possible_goals.Goals as goal

pub returns : goal.returns
returns c = possible_goals
