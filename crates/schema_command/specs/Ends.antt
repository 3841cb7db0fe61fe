-- How the command `schema` ends.
use Rattle.std.specs.Prelude.{◌≡◌, ◌⊎◌, ℕ, List, [], Result, Ok, Err}
use Rattle.access_schema.specs.declared.schema.Schema.{Schema}
use Rattle.tgd_reader.specs.Printed.{text_of_schema}
use Rattle.source_trait.specs.Causes.{Rose}
use Rattle.command_io.specs.declared.stop.Stop.{Stop}
use Rattle.command_io.specs.declared.outcome.Outcome.{Outcome}
use Rattle.command_io.specs.declared.outcome.Outcome.TheVariants as outcome
use Rattle.command_io.specs.Inputs.{SchemaIsRead, SchemaStop}
use Rattle.command_io.specs.Moments.{Moment, ResultStop}
use Rattle.command_io.specs.Writing.{TookAll, TookPart}
use Rattle.command_io.specs.Telling.{StopsFor}

-- The three ways: the schema of the file was written; no schema was read; or the text was not written whole, but nothing or a first part
-- of it that is not all.
pub data SchemaEnds (name : List ℕ) (before after : Moment) : Result Outcome Stop → Type 0 where
  printed : (schema : Schema) → SchemaIsRead before.files name schema →
      TookAll before.out after.out (text_of_schema schema) → after.err ≡ before.err → SchemaEnds name before after (Ok outcome.Done)
  refused : (end : Stop) →
      StopsFor (SchemaStop before.files name (Rose before.file_faults after.file_faults))
      (record { schema = name; query = []; plan = []; relations = [] }) before.err after.err (Rose before.err_faults after.err_faults) end →
      after.out ≡ before.out → SchemaEnds name before after (Err end)
  cut : (schema : Schema) (end : Stop) → SchemaIsRead before.files name schema →
      (after.out ≡ before.out) ⊎ TookPart before.out after.out (text_of_schema schema) →
      StopsFor (ResultStop (Rose before.out_faults after.out_faults))
      (record { schema = name; query = []; plan = []; relations = schema.relations }) before.err after.err (Rose before.err_faults after.err_faults) end →
      SchemaEnds name before after (Err end)
