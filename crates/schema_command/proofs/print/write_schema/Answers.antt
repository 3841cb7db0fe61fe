-- Why the text of the schema was not written whole, and what was taken of it.
use Rattle.std.proofs.Common.{inl, inr, refl}
use Rattle.std.proofs.lemmas.Result.{IfErr-weaker}
use Rattle.command_io.specs.Moments.ResultStop.{no_memory}
use Rattle.command_io.proofs.Delivering.{result_stops}
use Rattle.schema_command.proofs.print.write_schema.Goals as goal

pub returns-in-Err-clause-cause : goal.returns-in-Err-clause-cause
returns-in-Err-clause-cause g c = no_memory

pub returns-in-Err-clause-part : goal.returns-in-Err-clause-part
returns-in-Err-clause-part g c = inl refl

pub returns-clause-cause : goal.returns-clause-cause
returns-clause-cause g c = result_stops _ c.print.result c.print.ensures.cause

pub returns-clause-part : goal.returns-clause-part
returns-clause-part g c = IfErr-weaker c.print.result _ _ (λ stop part. inr part) (rw (c.as_slice.ensures, c.in-Ok.ensures.text) at c.print.ensures.part)
