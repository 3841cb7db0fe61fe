use Rattle.integer_laws.proofs.Firings.{answered_is_sorted}
use Rattle.integer_laws.proofs.laws.answered_is_sorted.Goals as goal

pub returns : goal.returns
returns c = answered_is_sorted
