use Rattle.integer_laws.proofs.Instances.{separated_sorted}
use Rattle.integer_laws.proofs.laws.separated_sorted.Goals as goal

pub returns : goal.returns
returns c = separated_sorted
