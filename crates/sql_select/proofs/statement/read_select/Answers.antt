use Rattle.sql_select.proofs.Answering.{only, fits}
use Rattle.sql_select.proofs.statement.read_select.Goals as goal

pub returns-clause-only : goal.returns-clause-only
returns-clause-only c = only c.args.schema.now c.args.bytes.now c.read_bytes.result c.read_bytes.ensures.read c.read_bytes.ensures.fault

pub returns-clause-fits : goal.returns-clause-fits
returns-clause-fits c = fits c.args.schema.now c.args.bytes.now c.read_bytes.result c.read_bytes.ensures.read
