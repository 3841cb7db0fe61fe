-- What a run of the program does: the ways in which it ends, with the exit status of each.
use Rattle.std.specs.Prelude.{◌≡◌, ℕ, Bool, List, [], take, drop, Result, Ok, Err}
use Rattle.source_trait.specs.Asking.{Seen}
use Rattle.source_trait.specs.Causes.{Rose}
use Rattle.source_trait.specs.declared.lanes.Lane.{Lane}
use Rattle.command_io.specs.declared.exit_status.Status.{Status}
use Rattle.command_io.specs.declared.exit_status.Status.TheVariants as is
use Rattle.command_io.specs.declared.stop.Stop.{Stop}
use Rattle.command_io.specs.declared.stop.Stop.TheVariants as stop
use Rattle.command_io.specs.declared.outcome.Outcome.{Outcome}
use Rattle.command_io.specs.declared.outcome.Outcome.TheVariants as outcome
use Rattle.command_io.specs.Status.{status_of}
use Rattle.command_io.specs.Moments.{Moment, outputs_of}
use Rattle.command_io.specs.Telling.{StopsFor}
use Rattle.schema_command.specs.Ends.{SchemaEnds}
use Rattle.run_command.specs.Ends.{RunEnds}
use Rattle.run_command.specs.Explained.{ExplainEnds}
use Rattle.run_command.specs.World.{WorldEnds}
use Rattle.batch_command.specs.Ends.{BatchEnds}
use Rattle.exec_command.specs.Ends.{ExecEnds}
use Rattle.check_command.specs.Ends.{CheckEnds}
use Rattle.verify_command.specs.Ends.{VerifyEnds}
use Rattle.crawl_command.specs.Ends.{CrawlEnds}
use Rattle.crawl_command.specs.Reach.{ReachEnds}
use Rattle.command_words.specs.Words.{Command, IsCommand}
use Rattle.command_words.specs.Words.Command.{Help, Schema, Explain, Run, Batch, Exec, Check, Verify, Crawl, Reach, World}
use Rattle.pdq_core.specs.Help.{HelpEnds}

-- The status is that of the outcome where nothing stopped the command, and otherwise that of the stop.
abbrev pub ended : Result Outcome Stop → Status
ended (Ok outcome.Done) = is.Done
ended (Ok outcome.No) = is.No
ended (Ok outcome.Undecided) = is.Undecided
ended (Err end) = status_of end

-- A run ends in one of these ways. Of the lanes as many are used as there are workers, the first ones, or all where there are fewer;
-- those behind stay.
pub data Runs {S : Type 0} (seen : S → Seen) (words : List (List ℕ)) (before after : Moment) (old new : List (Lane S)) : Status → Type 0 where
  -- the words are no command, and nothing but the line was written
  no_command : (end : Stop) → ((command : Command) → IsCommand words command → ⊥) →
      StopsFor (λ given. given ≡ stop.Words) (record { schema = []; query = []; plan = []; relations = [] }) before.err after.err (Rose before.err_faults after.err_faults) end →
      after.out ≡ before.out → new ≡ old → Runs seen words before after old new (status_of end)
  -- the words are `help`
  help : (result : Result Outcome Stop) → IsCommand words Help →
      HelpEnds (outputs_of before) (outputs_of after) result → new ≡ old → Runs seen words before after old new (ended result)
  -- the words are `schema SCHEMA`
  schema : (name : List ℕ) (result : Result Outcome Stop) → IsCommand words (Schema name) →
      SchemaEnds name before after result → new ≡ old → Runs seen words before after old new (ended result)
  -- the words are `explain SCHEMA QUERY`, with a number of firings and one of search units
  explain : (name query : List ℕ) (firings search : ℕ) (result : Result Outcome Stop) → IsCommand words (Explain name query firings search) →
      ExplainEnds name query firings search before after result → new ≡ old → Runs seen words before after old new (ended result)
  -- the words are `run SCHEMA QUERY`, with a number of firings, one of search units, one of workers and one of calls, and with the flag that
  -- has the rules tested first, or not
  run : (name query : List ℕ) (firings search workers calls : ℕ) (verify : Bool) (result : Result Outcome Stop) →
      IsCommand words (Run name query firings search workers calls verify) →
      RunEnds seen name query (record { limits = record { firings = firings; search = search; calls = calls }; verify = verify }) before after
      (take workers old) (take workers new) result →
      drop workers new ≡ drop workers old → Runs seen words before after old new (ended result)
  -- the words are `batch SCHEMA QUERIES`, with a number of firings, one of search units, one of workers and one of calls; no rules are tested
  batch : (name queries : List ℕ) (firings search workers calls : ℕ) (result : Result Outcome Stop) →
      IsCommand words (Batch name queries firings search workers calls) →
      BatchEnds seen name queries (record { firings = firings; search = search; calls = calls }) before after
      (take workers old) (take workers new) result →
      drop workers new ≡ drop workers old → Runs seen words before after old new (ended result)
  -- the words are `exec SCHEMA PLAN`, with a number of workers and one of calls
  exec : (name plan : List ℕ) (workers calls : ℕ) (result : Result Outcome Stop) → IsCommand words (Exec name plan workers calls) →
      ExecEnds seen name plan calls before after (take workers old) (take workers new) result →
      drop workers new ≡ drop workers old → Runs seen words before after old new (ended result)
  -- the words are `check SCHEMA QUERY PLAN`, with a number of firings
  check : (name query plan : List ℕ) (firings : ℕ) (result : Result Outcome Stop) → IsCommand words (Check name query plan firings) →
      CheckEnds name query plan firings before after result → new ≡ old → Runs seen words before after old new (ended result)
  -- the words are `verify SCHEMA`
  verify : (name : List ℕ) (result : Result Outcome Stop) → IsCommand words (Verify name) →
      VerifyEnds seen name before after old new result → Runs seen words before after old new (ended result)
  -- the words are `crawl SCHEMA`, with a number of workers and one of calls
  crawl : (name : List ℕ) (workers calls : ℕ) (result : Result Outcome Stop) → IsCommand words (Crawl name workers calls) →
      CrawlEnds seen name calls before after (take workers old) (take workers new) result →
      drop workers new ≡ drop workers old → Runs seen words before after old new (ended result)
  -- the words are `reach SCHEMA QUERY`, with a number of workers and one of calls
  reach : (name query : List ℕ) (workers calls : ℕ) (result : Result Outcome Stop) → IsCommand words (Reach name query workers calls) →
      ReachEnds seen name query calls before after (take workers old) (take workers new) result →
      drop workers new ≡ drop workers old → Runs seen words before after old new (ended result)
  -- the words are `world N`, with a number of workers
  world : (size workers : ℕ) (result : Result Outcome Stop) → IsCommand words (World size workers) →
      WorldEnds seen size (outputs_of before) (outputs_of after) (take workers old) (take workers new) result → drop workers new ≡ drop workers old → Runs seen words before after old new (ended result)
