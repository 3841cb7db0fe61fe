-- The ways of a delivery after the rules were tested, by where it stopped.
use Rattle.std.proofs.Common.{refl}
use Rattle.command_io.specs.Executing.Delivers.{no_rows}
use Rattle.command_io.proofs.Delivering.{reported}
use Rattle.command_io.proofs.verified.deliver_verified.Goals as goal

pub returns-in-Ok-clause-delivers : goal.returns-in-Ok-clause-delivers
returns-in-Ok-clause-delivers g c =
    reported _ _ _ _ _ c.in-Ok.executed c.in-Ok.ensures.runs c.write_report.result c.write_report.ensures.delivers

pub returns-in-Err-clause-delivers : goal.returns-in-Err-clause-delivers
returns-in-Err-clause-delivers g c = no_rows c.stop_of_verified.result (c.in-Err.fault, c.in-Err.ensures.runs, c.stop_of_verified.ensures) refl
