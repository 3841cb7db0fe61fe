-- Where there is no memory for the line, the line of that is written.
use Rattle.command_io.proofs.Lines.{memory_tells}
use Rattle.command_io.proofs.telling.tell.Goals as goal

pub returns-in-Err-clause-tells : goal.returns-in-Err-clause-tells
returns-in-Err-clause-tells g c = memory_tells _ _ _ _ c.args.stop c.say-in-Err.result c.say-in-Err.ensures.said
