use Rattle.sql_batch.proofs.Unique.{no_fault}
use Rattle.sql_batch.proofs.laws.batches_have_no_fault.Goals as goal

pub returns : goal.returns
returns c = no_fault
