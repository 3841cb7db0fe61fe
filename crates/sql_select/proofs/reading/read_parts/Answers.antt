use Rattle.sql_select.proofs.Faults.{reads, faults}
use Rattle.sql_select.proofs.Stand.{all_stand}
use Rattle.sql_select.specs.Words.{pieces_of}
use Rattle.sql_select.proofs.reading.read_parts.Goals as goal

pub returns-clause-reads : goal.returns-clause-reads
returns-clause-reads c = reads c.read_tokens.result (pieces_of c.args.text.now c.args.tokens.now) c.read_tokens.ensures.reading

pub returns-clause-fault : goal.returns-clause-fault
returns-clause-fault c = faults c.args.text.now c.args.tokens.now c.read_tokens.result c.read_tokens.ensures.reading

pub returns-clause-stand : goal.returns-clause-stand
returns-clause-stand c = all_stand c.args.text.now c.args.tokens.now c.read_tokens.result c.requires (reads c.read_tokens.result (pieces_of c.args.text.now c.args.tokens.now) c.read_tokens.ensures.reading)
