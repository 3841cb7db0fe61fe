-- The ways of the text of the answers, by where writing it stopped.
use Rattle.std.proofs.Common.{refl}
use Rattle.command_io.specs.Executing.Delivers.{no_text}
use Rattle.command_io.proofs.Delivering.{printed}
use Rattle.crawl_command.proofs.reach.write_answers.Goals as goal

pub returns-in-Err-clause-delivers : goal.returns-in-Err-clause-delivers
returns-in-Err-clause-delivers g c = no_text c.args.part.now refl refl

pub returns-clause-delivers : goal.returns-clause-delivers
returns-clause-delivers g c =
    printed _ _ _ _ _ c.args.part.now c.in-Ok.text c.print.result refl c.in-Ok.ensures
    (rw c.as_slice.ensures at c.print.ensures.whole) (rw c.as_slice.ensures at c.print.ensures.part) c.print.ensures.cause
