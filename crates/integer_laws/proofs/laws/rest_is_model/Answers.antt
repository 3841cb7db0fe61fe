use Rattle.integer_laws.proofs.Rivals.{rest_is_model}
use Rattle.integer_laws.proofs.laws.rest_is_model.Goals as goal

pub returns : goal.returns
returns c = rest_is_model
