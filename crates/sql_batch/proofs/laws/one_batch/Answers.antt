use Rattle.sql_batch.proofs.Unique.{one_batch}
use Rattle.sql_batch.proofs.laws.one_batch.Goals as goal

pub returns : goal.returns
returns c = one_batch
