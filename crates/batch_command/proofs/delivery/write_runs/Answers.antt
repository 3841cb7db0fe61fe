-- The ways of a report, by where writing it stopped.
use Rattle.std.proofs.Common.{refl}
use Rattle.command_io.specs.Executing.Delivers.{no_text}
use Rattle.command_io.proofs.Delivering.{printed}
use Rattle.batch_command.proofs.delivery.write_runs.Goals as goal

pub returns-in-Err-clause-delivers : goal.returns-in-Err-clause-delivers
returns-in-Err-clause-delivers g c = λ plans. no_text c.args.runs.now refl refl

pub returns-clause-delivers : goal.returns-clause-delivers
returns-clause-delivers g c = λ plans.
    printed _ _ _ _ _ c.args.runs.now c.in-Ok.text c.print.result refl (c.in-Ok.ensures plans)
    (rw c.as_slice.ensures at c.print.ensures.whole) (rw c.as_slice.ensures at c.print.ensures.part) c.print.ensures.cause
