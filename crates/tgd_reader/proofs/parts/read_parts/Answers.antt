use Rattle.tgd_reader.proofs.PartLaws.{text_only}
use Rattle.tgd_reader.proofs.parts.read_parts.Goals as goal

pub returns-clause-only : goal.returns-clause-only
returns-clause-only c = text_only c.args.text.now c.text_parts.result c.text_parts.ensures.found c.text_parts.ensures.fault
