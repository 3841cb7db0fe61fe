-- How the command `world` ends over lanes with new generators.
use Rattle.std.specs.Prelude.{◌≡◌, ◌+◌, ◌*◌, ℕ, length, Result, Ok, Err}
use Rattle.source_trait.specs.Asking.{RowList}
use Rattle.source_trait.specs.Causes.{Rose}
use Rattle.command_io.specs.declared.stop.Stop.{Stop}
use Rattle.command_io.specs.declared.stop.Stop.TheVariants as stop
use Rattle.command_io.specs.declared.outcome.Outcome.{Outcome}
use Rattle.command_io.specs.declared.outcome.Outcome.TheVariants as outcome
use Rattle.command_io.specs.declared.exit_status.Status.{Status}
use Rattle.command_io.specs.Moments.{Moment, Outputs, outputs_of}
use Rattle.command_io.specs.Reports.{summary}
use Rattle.command_io.specs.Writing.{TookAll}
use Rattle.pdq_core.specs.Runs.{ended}

-- Standard output took the line of N rows, of which 7N + 1 requests were made; or memory was wanted; or a write failed, of the decision or
-- of the line.
pub data WorldIsOver (size : ℕ) (before after : Outputs) : Result Outcome Stop → Type 0 where
  done : (rows : RowList) → length rows ≡ size → TookAll before.out after.out (summary size (7 * size + 1) rows) → WorldIsOver size before after (Ok outcome.Done)
  no_memory : WorldIsOver size before after (Err stop.Memory)
  no_decision_write : Rose before.err_faults after.err_faults → WorldIsOver size before after (Err stop.DecisionWrite)
  no_result_write : Rose before.out_faults after.out_faults → WorldIsOver size before after (Err stop.ResultWrite)

-- The run of the program was one of these.
abbrev pub RunIsOver : ℕ → Moment → Moment → Status → Type 0
RunIsOver size before after status = (result : Result Outcome Stop) × (status ≡ ended result) × WorldIsOver size (outputs_of before) (outputs_of after) result
