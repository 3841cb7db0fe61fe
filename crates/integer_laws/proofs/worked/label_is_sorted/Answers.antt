use Rattle.integer_laws.proofs.Examples.{label_is_sorted}
use Rattle.integer_laws.proofs.worked.label_is_sorted.Goals as goal

pub returns : goal.returns
returns c = label_is_sorted
