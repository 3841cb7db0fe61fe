-- Why one of the texts is not read.
use Rattle.std.proofs.Common.{◌≤◌, arith}
use Rattle.std.proofs.lemmas.Result.{err_from_is_err_and}
use Rattle.command_io.proofs.Later.{rose_between, batch_later}
use Rattle.batch_command.specs.Ends.BatchTextsStop.{no_schema, no_batch}
use Rattle.batch_command.proofs.batch.read_batch_texts.Goals as goal

pub returns-in_err-schema-clause-cause : goal.returns-in_err-schema-clause-cause
returns-in_err-schema-clause-cause g c =
    let told = err_from_is_err_and c.from_residual.result c.from_residual.ensures.1 in
    rw (told.1, told.2) (no_schema c.in_err-schema.field-0.0 c.in_err-schema.ensures.cause)

pub returns-in_err-statements-clause-cause : goal.returns-in_err-statements-clause-cause
returns-in_err-statements-clause-cause g c =
    let begun : g.F.Files.faults c.args.files.now ≤ g.F.Files.faults c.schema_of.new.files = c.schema_of.ensures.later in
    let told = err_from_is_err_and c.from_residual-in_err-statements.result c.from_residual-in_err-statements.ensures.1 in
    rw (told.1, told.2) (no_batch c.in_ok-schema.schema c.in_err-statements.field-0.0 c.in_ok-schema.ensures.read
    (batch_later _ _ _ _ _ c.in_err-statements.field-0.0 (rose_between _ _ _ _ begun (omega arith))
    (rw c.schema_of.ensures.same at c.in_err-statements.ensures.cause)))
