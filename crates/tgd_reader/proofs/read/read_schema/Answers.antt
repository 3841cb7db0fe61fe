use Rattle.tgd_reader.proofs.Exactly.{read_only}
use Rattle.tgd_reader.proofs.read.read_schema.Goals as goal

pub returns-clause-only : goal.returns-clause-only
returns-clause-only c = read_only c.args.bytes.now c.bytes_schema.result c.bytes_schema.ensures.read c.bytes_schema.ensures.fault
