use Rattle.sql_batch.proofs.Queries.{ends_with}
use Rattle.sql_batch.proofs.reading.read_queries.Goals as goal

pub returns-in-Ok-clause-read : goal.returns-in-Ok-clause-read
returns-in-Ok-clause-read c = (ends_with c.args.schema.now c.args.bytes.now c.args.parts.now c.in-Ok.read c.outcome.result c.outcome.ensures c.in-Ok.ensures.read).0

pub returns-in-Ok-clause-fits : goal.returns-in-Ok-clause-fits
returns-in-Ok-clause-fits c = (ends_with c.args.schema.now c.args.bytes.now c.args.parts.now c.in-Ok.read c.outcome.result c.outcome.ensures c.in-Ok.ensures.read).1

pub returns-in-Ok-clause-fault : goal.returns-in-Ok-clause-fault
returns-in-Ok-clause-fault c = (ends_with c.args.schema.now c.args.bytes.now c.args.parts.now c.in-Ok.read c.outcome.result c.outcome.ensures c.in-Ok.ensures.read).2
