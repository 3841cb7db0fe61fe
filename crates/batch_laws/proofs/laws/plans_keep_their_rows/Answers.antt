use Rattle.batch_laws.proofs.Together.{same_alone}
use Rattle.batch_laws.proofs.laws.plans_keep_their_rows.Goals as goal

pub returns : goal.returns
returns g c = same_alone g.S.Source.seen
