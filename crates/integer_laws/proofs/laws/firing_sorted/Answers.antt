use Rattle.integer_laws.proofs.Firings.{firing_sorted}
use Rattle.integer_laws.proofs.laws.firing_sorted.Goals as goal

pub returns : goal.returns
returns c = firing_sorted
