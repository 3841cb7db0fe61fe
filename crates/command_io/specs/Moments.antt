-- What the files and the outputs of a command tell before and after it.
use Rattle.std.specs.Prelude.{◌≡◌, ℕ, ◌≤◌, List, Option}
use Rattle.command_io.specs.Inputs.{Contents}
use Rattle.command_io.specs.declared.stop.Stop.{Stop}
use Rattle.command_io.specs.declared.stop.Stop.TheVariants as stop

-- What they tell at one moment.
pub record Moment : Type 0 where
  -- the names and bytes of the files, where they are told
  pub files : Option Contents
  pub file_faults : ℕ
  -- what standard output took, where that is told
  pub out : Option (List ℕ)
  pub out_faults : ℕ
  -- what standard error took, where that is told
  pub err : Option (List ℕ)
  pub err_faults : ℕ

-- What the two outputs tell at one moment.
pub record Outputs : Type 0 where
  pub out : Option (List ℕ)
  pub out_faults : ℕ
  pub err : Option (List ℕ)
  pub err_faults : ℕ

abbrev pub outputs_of : Moment → Outputs
outputs_of moment = record { out = moment.out; out_faults = moment.out_faults; err = moment.err; err_faults = moment.err_faults }

-- The contents of the files stay, and no count falls.
pub record Stays (before after : Moment) : Type 0 where
  pub files : after.files ≡ before.files
  pub file_faults : before.file_faults ≤ after.file_faults
  pub out_faults : before.out_faults ≤ after.out_faults
  pub err_faults : before.err_faults ≤ after.err_faults

-- A count of faults at a moment in between.
pub record Between (before after : ℕ) : Type 0 where
  pub faults : ℕ
  pub begun : before ≤ faults
  pub ended : faults ≤ after

-- Why a result is not written whole: memory was wanted, or the sink failed.
pub data ResultStop (rose : Type 0) : Stop → Type 0 where
  no_memory : ResultStop rose stop.Memory
  sink_failed : rose → ResultStop rose stop.ResultWrite

-- Why a decision is not written whole.
pub data DecisionStop (rose : Type 0) : Stop → Type 0 where
  no_memory : DecisionStop rose stop.Memory
  sink_failed : rose → DecisionStop rose stop.DecisionWrite
