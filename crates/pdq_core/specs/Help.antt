-- How the command `help` ends.
use Rattle.std.specs.Prelude.{◌≡◌, [], Result, Ok, Err}
use Rattle.source_trait.specs.Causes.{Rose}
use Rattle.command_io.specs.declared.stop.Stop.{Stop}
use Rattle.command_io.specs.declared.outcome.Outcome.{Outcome}
use Rattle.command_io.specs.declared.outcome.Outcome.TheVariants as outcome
use Rattle.command_io.specs.Moments.{Outputs, ResultStop}
use Rattle.command_io.specs.Writing.{TookAll, TookPart}
use Rattle.command_io.specs.Telling.{StopsFor}
use Rattle.command_words.specs.Usage.{usage}

-- The usage text was written whole, or not; no file is read.
pub data HelpEnds (before after : Outputs) : Result Outcome Stop → Type 0 where
  printed : TookAll before.out after.out usage → after.err ≡ before.err → HelpEnds before after (Ok outcome.Done)
  cut : (end : Stop) → TookPart before.out after.out usage →
      StopsFor (ResultStop (Rose before.out_faults after.out_faults))
      (record { schema = []; query = []; plan = []; relations = [] }) before.err after.err (Rose before.err_faults after.err_faults) end →
      HelpEnds before after (Err end)
