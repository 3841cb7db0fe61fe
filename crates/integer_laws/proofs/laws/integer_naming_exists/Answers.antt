use Rattle.integer_laws.proofs.Numbers.{integer_naming_exists}
use Rattle.integer_laws.proofs.laws.integer_naming_exists.Goals as goal

pub returns : goal.returns
returns c = integer_naming_exists
