-- How a command ends: the exit status, and the status of each stop.
use Rattle.std.specs.Prelude.{ℕ}
use Rattle.source_trait.specs.declared.files.FileFault.{FileFault}
use Rattle.source_trait.specs.declared.files.FileFault.TheVariants as file
use Rattle.source_trait.specs.declared.source.AttachFault.{AttachFault}
use Rattle.source_trait.specs.declared.source.AttachFault.TheVariants as attach
use Rattle.middleware.specs.declared.fault.RunFault.{RunFault}
use Rattle.middleware.specs.declared.fault.RunFault.TheVariants as run
use Rattle.command_io.specs.declared.exit_status.Status.{Status}
use Rattle.command_io.specs.declared.exit_status.Status.TheVariants as is
use Rattle.command_io.specs.declared.stop.Stop.{Stop}
use Rattle.command_io.specs.declared.stop.Stop.TheVariants as stop

-- The exit status of the program.
abbrev pub code_of : Status → ℕ
code_of is.Done = 0
code_of is.No = 1
code_of is.Undecided = 2
code_of is.Words = 3
code_of is.Text = 4
code_of is.Fault = 5
code_of is.Write = 6
code_of is.Cap = 7
code_of is.Memory = 8

-- A missing or failed file is a fault of the outside, a file that is too large one of its text.
abbrev pub file_status : FileFault → Status
file_status file.Missing = is.Fault
file_status file.TooLarge = is.Text
file_status file.Failed = is.Fault
file_status file.NoMemory = is.Memory

-- Missing or failed data is a fault of the outside, and other data one of its text.
abbrev pub attach_status : AttachFault → Status
attach_status attach.Missing = is.Fault
attach_status attach.Failed = is.Fault
attach_status (attach.BadHeader column) = is.Text
attach_status (attach.BadRow number) = is.Text
attach_status (attach.NotUtf8 number) = is.Text
attach_status attach.TooLarge = is.Text
attach_status attach.NoMemory = is.Memory

-- A failed request is a fault of the outside, a source line that is not there one of the schema's text, and a bad number one of the data.
abbrev pub run_status : RunFault → Status
run_status run.NoMemory = is.Memory
run_status (run.NoSource rel) = is.Text
run_status (run.UnknownKind rel) = is.Text
run_status (run.Attach rel fault) = attach_status fault
run_status (run.CallFailed branch step) = is.Fault
run_status (run.OverCalls made wanted cap) = is.Cap
run_status (run.BadNumber rel column) = is.Text

-- The status of each stop.
abbrev pub status_of : Stop → Status
status_of stop.Memory = is.Memory
status_of stop.Words = is.Words
status_of (stop.File input fault) = file_status fault
status_of (stop.Schema fault) = is.Text
status_of (stop.Query fault) = is.Text
status_of (stop.Plan fault) = is.Text
status_of stop.DecisionWrite = is.Write
status_of (stop.Illegal fault) = is.Text
status_of (stop.Run fault) = run_status fault
status_of (stop.RoundFailed round) = is.Fault
status_of (stop.QueryCall query branch step) = is.Fault
status_of (stop.WholeFailed rel) = is.Fault
status_of (stop.NotMet line) = is.No
status_of stop.ResultWrite = is.Write
