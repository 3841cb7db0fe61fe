use Rattle.schema_parts.proofs.Alike.{queries_fit}
use Rattle.schema_parts.proofs.laws.queries_fit.Goals as goal

pub returns : goal.returns
returns c = queries_fit
