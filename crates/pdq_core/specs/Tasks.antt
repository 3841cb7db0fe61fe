-- How a task ends on the lanes that it uses.
use Rattle.std.specs.Prelude.{◌≤◌, ℕ, List, Result}
use Rattle.source_trait.specs.Asking.{Seen}
use Rattle.source_trait.specs.declared.lanes.Lane.{Lane}
use Rattle.command_io.specs.declared.stop.Stop.{Stop}
use Rattle.command_io.specs.declared.outcome.Outcome.{Outcome}
use Rattle.command_io.specs.Moments.{Moment}
use Rattle.rule_pass.specs.declared.pass.TheConstants.{MOST_FIRINGS}
use Rattle.proof_search.specs.declared.deciding.TheConstants.{MOST_UNITS}
use Rattle.run_command.specs.Ends.{RunEnds}
use Rattle.batch_command.specs.Ends.{BatchEnds}
use Rattle.exec_command.specs.Ends.{ExecEnds}
use Rattle.crawl_command.specs.Ends.{CrawlEnds}
use Rattle.crawl_command.specs.Reach.{ReachEnds}
use Rattle.command_words.specs.declared.command.Task.{Task}
use Rattle.command_words.specs.declared.command.Task.TheVariants as task

-- No number of firings or of search units is above the greatest that is allowed.
abbrev pub IsWithin : Task → Type 0
IsWithin (task.Run schema query n units verify) = (n ≤ MOST_FIRINGS) × (units ≤ MOST_UNITS)
IsWithin (task.Batch schema queries n units) = (n ≤ MOST_FIRINGS) × (units ≤ MOST_UNITS)
IsWithin _ = Unit {0}

-- The task ends as its command does, with so many calls at most.
abbrev pub TaskEnds : {S : Type 0} → (S → Seen) → Task → ℕ → Moment → Moment → List (Lane S) → List (Lane S) → Result Outcome Stop → Type 0
TaskEnds seen (task.Run schema query n units verify) calls before after old new result =
    RunEnds seen schema.now query.now (record { limits = record { firings = n; search = units; calls = calls }; verify = verify }) before after old new result
TaskEnds seen (task.Batch schema queries n units) calls before after old new result =
    BatchEnds seen schema.now queries.now (record { firings = n; search = units; calls = calls }) before after old new result
TaskEnds seen (task.Exec schema plan) calls before after old new result = ExecEnds seen schema.now plan.now calls before after old new result
TaskEnds seen (task.Crawl schema) calls before after old new result = CrawlEnds seen schema.now calls before after old new result
TaskEnds seen (task.Reach schema query) calls before after old new result = ReachEnds seen schema.now query.now calls before after old new result
