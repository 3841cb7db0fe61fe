use Rattle.access_schema.proofs.Keeping.{rules_fit}
use Rattle.access_schema.proofs.laws.rules_fit.Goals as goal

pub returns : goal.returns
returns c = rules_fit
