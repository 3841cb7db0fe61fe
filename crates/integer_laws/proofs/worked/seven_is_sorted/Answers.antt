use Rattle.integer_laws.proofs.Examples.{seven_is_sorted}
use Rattle.integer_laws.proofs.worked.seven_is_sorted.Goals as goal

pub returns : goal.returns
returns c = seven_is_sorted
