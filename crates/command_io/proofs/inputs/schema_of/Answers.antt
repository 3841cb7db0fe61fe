-- A file that is not read stops the command by its fault, and a text by its own.
use Rattle.std.proofs.Common.{ℕ, List}
use Rattle.std.proofs.lemmas.Result.{err_from_is_err_and}
use Rattle.tgd_reader.specs.SchemaText.{IsReadFault}
use Rattle.command_io.specs.Inputs.SchemaStop.{no_memory, no_file, no_schema}
use Rattle.command_io.specs.declared.inputs.TheConstants.{SCHEMA_LIMIT}
use Rattle.command_io.proofs.FileTexts.{is_text}
use Rattle.command_io.proofs.inputs.schema_of.Goals as goal

pub returns-in_err-bytes-clause-cause : goal.returns-in_err-bytes-clause-cause
returns-in_err-bytes-clause-cause g c =
    let told = err_from_is_err_and c.from_residual.result c.from_residual.ensures.1 in
    rw (told.1, told.2) (no_file c.in_err-bytes.field-0.0 c.in_err-bytes.ensures.cause)

pub returns-in-NoMemory-clause-cause : goal.returns-in-NoMemory-clause-cause
returns-in-NoMemory-clause-cause g c = no_memory

pub returns : goal.returns
returns g c = record {
  read = tt;
  cause = no_schema c.in-Err.fault c.in_default.not-NoMemory (is_text (g.F.Files.contents c.args.files.now) c.args.name.now c.in_ok-bytes.bytes c.without_mark.result.now SCHEMA_LIMIT
      (λ (text : List ℕ). IsReadFault text c.in-Err.fault) c.in_ok-bytes.ensures.size c.in_ok-bytes.ensures.bytes (rw c.as_slice.ensures at c.without_mark.ensures) c.in-Err.ensures.fault);
  later = c.read_file.ensures.later;
  same = c.read_file.ensures.same;
}
