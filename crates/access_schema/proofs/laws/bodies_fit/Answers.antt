use Rattle.access_schema.proofs.Keeping.{body_fits}
use Rattle.access_schema.proofs.laws.bodies_fit.Goals as goal

pub returns : goal.returns
returns c = body_fits
