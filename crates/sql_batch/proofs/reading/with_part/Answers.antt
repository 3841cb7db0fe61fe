use Rattle.sql_batch.proofs.Queries.{after_statement, after_fault}
use Rattle.sql_batch.proofs.reading.with_part.Goals as goal

pub returns-in-Ok-clause-more : goal.returns-in-Ok-clause-more
returns-in-Ok-clause-more c =
    after_statement c.args.schema.now c.args.bytes.now c.args.part c.in-Ok.statement c.args.read c.with_statement.result c.with_statement.ensures.new c.in-Ok.ensures.read c.in-Ok.ensures.fits

pub returns-in-Err-clause-more : goal.returns-in-Err-clause-more
returns-in-Err-clause-more c =
    after_fault c.args.schema.now c.args.bytes.now c.args.part c.in-Err.fault c.args.read c.with_fault.result c.with_fault.ensures.new c.in-Err.ensures.fault
