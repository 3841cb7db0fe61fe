use Rattle.schema_parts.proofs.Alike.{fewer_rivals}
use Rattle.schema_parts.proofs.laws.fewer_rivals.Goals as goal

pub returns : goal.returns
returns c = fewer_rivals
