use Rattle.integer_laws.proofs.Examples.{swap_is_not_sorted}
use Rattle.integer_laws.proofs.worked.swap_is_not_sorted.Goals as goal

pub returns : goal.returns
returns c = swap_is_not_sorted
