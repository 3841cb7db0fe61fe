use Rattle.sql_batch.proofs.Unique.{one_fault}
use Rattle.sql_batch.proofs.laws.one_batch_fault.Goals as goal

pub returns : goal.returns
returns c = one_fault
