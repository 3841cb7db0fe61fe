use Rattle.access_schema.proofs.Keeping.{rules_sorted}
use Rattle.access_schema.proofs.laws.rules_are_sorted.Goals as goal

pub returns : goal.returns
returns c = rules_sorted
