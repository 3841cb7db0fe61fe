use Rattle.integer_laws.proofs.Products.{rests_meet}
use Rattle.integer_laws.proofs.laws.rests_meet.Goals as goal

pub returns : goal.returns
returns c = rests_meet
