-- The commands `help` and `schema` are answered.
use Rattle.std.proofs.Common.{ℕ, List, Result}
use Rattle.access_schema.specs.declared.schema.Schema.{Schema}
use Rattle.command_io.specs.declared.stop.Stop.{Stop}
use Rattle.command_io.specs.declared.outcome.Outcome.{Outcome}
use Rattle.command_io.specs.Moments.{Moment, outputs_of}
use Rattle.schema_command.specs.Ends.{SchemaEnds}
use Rattle.schema_command.specs.Ends.SchemaEnds.{printed as schema_printed, refused, cut as schema_cut}
use Rattle.pdq_core.specs.Help.{HelpEnds}
use Rattle.pdq_core.specs.Help.HelpEnds.{printed, cut}
use Rattle.pdq_core.specs.Runs.{ended}
use Rattle.pdq_core.specs.Complete.{IsAnswered, NoneRose, SchemaIsGiven}
use Rattle.pdq_core.specs.Complete.IsAnswered.{done}
use Rattle.pdq_core.proofs.CompleteTexts.{schema_stop, result_stop, stop_answered}

pub help_answered : (before after : Moment) (result : Result Outcome Stop) → NoneRose before after → HelpEnds (outputs_of before) (outputs_of after) result → IsAnswered (ended result)
help_answered before after result calm (printed took quiet) = done
help_answered before after result calm (cut end took why) = stop_answered end (result_stop _ calm.out) why

pub schema_answered : (name : List ℕ) (before after : Moment) (result : Result Outcome Stop) → NoneRose before after →
    (schema : Schema) → SchemaIsGiven before.files name schema → SchemaEnds name before after result → IsAnswered (ended result)
schema_answered name before after result calm schema given (schema_printed its is took quiet) = done
schema_answered name before after result calm schema given (refused end why quiet) = stop_answered end (schema_stop before.files name _ calm.files schema given) why
schema_answered name before after result calm schema given (schema_cut its end is took why) = stop_answered end (result_stop _ calm.out) why
