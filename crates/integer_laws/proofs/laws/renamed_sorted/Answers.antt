use Rattle.integer_laws.proofs.Firings.{renamed_sorted}
use Rattle.integer_laws.proofs.laws.renamed_sorted.Goals as goal

pub returns : goal.returns
returns c = renamed_sorted
