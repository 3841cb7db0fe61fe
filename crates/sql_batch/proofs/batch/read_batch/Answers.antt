use Rattle.sql_batch.proofs.Unique.{only}
use Rattle.sql_batch.proofs.Answering.{counted}
use Rattle.sql_batch.proofs.batch.read_batch.Goals as goal

pub returns-clause-only : goal.returns-clause-only
returns-clause-only c = only c.args.schema.now c.args.bytes.now c.read_bytes.result c.read_bytes.ensures.read c.read_bytes.ensures.fault

pub returns-clause-some : goal.returns-clause-some
returns-clause-some c = counted c.args.schema.now c.args.bytes.now c.read_bytes.result c.read_bytes.ensures.read
