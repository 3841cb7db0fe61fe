use Rattle.integer_laws.proofs.Numbers.{mixed_naming_exists}
use Rattle.integer_laws.proofs.laws.mixed_naming_exists.Goals as goal

pub returns : goal.returns
returns c = mixed_naming_exists
