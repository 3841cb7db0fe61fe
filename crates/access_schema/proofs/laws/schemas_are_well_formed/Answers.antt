use Rattle.access_schema.proofs.Keeping.{well_formed}
use Rattle.access_schema.proofs.laws.schemas_are_well_formed.Goals as goal

pub returns : goal.returns
returns c = well_formed
