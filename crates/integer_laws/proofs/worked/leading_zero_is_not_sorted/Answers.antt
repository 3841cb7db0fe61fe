use Rattle.integer_laws.proofs.Examples.{leading_zero_is_not_sorted}
use Rattle.integer_laws.proofs.worked.leading_zero_is_not_sorted.Goals as goal

pub returns : goal.returns
returns c = leading_zero_is_not_sorted
