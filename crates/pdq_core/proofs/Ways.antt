-- What the words of a command set, and how a task ends a run.
use Rattle.std.proofs.Common.{◌≡◌, ◌≤◌, ℕ, List, Result, take, drop, arith}
use Rattle.source_trait.specs.Asking.{Seen}
use Rattle.source_trait.specs.declared.lanes.Lane.{Lane}
use Rattle.command_io.specs.declared.stop.Stop.{Stop}
use Rattle.command_io.specs.declared.outcome.Outcome.{Outcome}
use Rattle.command_io.specs.Moments.{Moment}
use Rattle.rule_pass.specs.declared.pass.TheConstants.{MOST_FIRINGS}
use Rattle.proof_search.specs.declared.deciding.TheConstants.{MOST_UNITS}
use Rattle.command_words.specs.Splits.{Item, IsSet}
use Rattle.command_words.specs.Splits.IsSet.{Once, Absent}
use Rattle.command_words.specs.declared.table.OptionName.TheVariants.{Firings, Search, Workers, Calls}
use Rattle.command_words.specs.Words.{IsCommand, task_seen_as}
use Rattle.command_words.specs.Words.Command.{Explain, Check, World}
use Rattle.command_words.specs.declared.command.Task.{Task}
use Rattle.command_words.specs.declared.command.Task.TheVariants as task
use Rattle.pdq_core.specs.Runs.{Runs, ended}
use Rattle.pdq_core.specs.Runs.Runs.{run, batch, exec, crawl, reach}
use Rattle.pdq_core.specs.Tasks.{IsWithin, TaskEnds}

-- a number of firings is within its range, given or not
in_range : (items : List Item) (n : ℕ) → IsSet Firings items n → n ≤ MOST_FIRINGS
in_range items n (Once text within) = within.1
in_range items n (Absent none is) = omega (arith, is)

-- and so is a number of search units
units_in_range : (items : List Item) (n : ℕ) → IsSet Search items n → n ≤ MOST_UNITS
units_in_range items n (Once text within) = within.1
units_in_range items n (Absent none is) = omega (arith, is)

-- and at most 8 workers
workers_in_range : (items : List Item) (n : ℕ) → IsSet Workers items n → n ≤ 8
workers_in_range items n (Once text within) = within.1
workers_in_range items n (Absent none is) = omega (arith, is)

-- and at most 1,000,000 calls
calls_in_range : (items : List Item) (n : ℕ) → IsSet Calls items n → n ≤ 1000000
calls_in_range items n (Once text within) = within.1
calls_in_range items n (Absent none is) = omega (arith, is)

pub few_explained : (words : List (List ℕ)) (schema query : List ℕ) (n units : ℕ) → IsCommand words (Explain schema query n units) → n ≤ MOST_FIRINGS
few_explained words schema query n units is = in_range is.items n is.are_set.0

pub units_explained : (words : List (List ℕ)) (schema query : List ℕ) (n units : ℕ) → IsCommand words (Explain schema query n units) → units ≤ MOST_UNITS
units_explained words schema query n units is = units_in_range is.items units is.are_set.1.0

pub few_checked : (words : List (List ℕ)) (schema query plan : List ℕ) (n : ℕ) → IsCommand words (Check schema query plan n) → n ≤ MOST_FIRINGS
few_checked words schema query plan n is = in_range is.items n is.are_set.0

pub world_within : (words : List (List ℕ)) (size workers : ℕ) → IsCommand words (World size workers) → (size ≤ 10000) × (workers ≤ 8)
world_within words size workers is = (is.2, workers_in_range is.0.items workers is.0.are_set.0)

pub task_within : (words : List (List ℕ)) (which : Task) (workers calls : ℕ) → IsCommand words (task_seen_as workers calls which) →
    IsWithin which × (workers ≤ 8) × (calls ≤ 1000000)
task_within words (task.Run schema query n units verify) workers calls is = (
  (in_range is.items n is.are_set.0, units_in_range is.items units is.are_set.1.0),
  workers_in_range is.items workers is.are_set.1.1.0,
  calls_in_range is.items calls is.are_set.1.1.1.0,
)
task_within words (task.Batch schema queries n units) workers calls is = (
  (in_range is.items n is.are_set.0, units_in_range is.items units is.are_set.1.0),
  workers_in_range is.items workers is.are_set.1.1.0,
  calls_in_range is.items calls is.are_set.1.1.1.0,
)
task_within words (task.Exec schema plan) workers calls is = (tt, workers_in_range is.items workers is.are_set.0, calls_in_range is.items calls is.are_set.1.0)
task_within words (task.Crawl schema) workers calls is = (tt, workers_in_range is.items workers is.are_set.0, calls_in_range is.items calls is.are_set.1.0)
task_within words (task.Reach schema query) workers calls is = (tt, workers_in_range is.items workers is.are_set.0, calls_in_range is.items calls is.are_set.1.0)

-- the end of a task on the first lanes is a way in which a run ends
pub task_runs : {S : Type 0} (seen : S → Seen) (words : List (List ℕ)) (before after : Moment) (old new : List (Lane S)) (which : Task) (workers calls : ℕ)
    (result : Result Outcome Stop) → IsCommand words (task_seen_as workers calls which) →
    TaskEnds seen which calls before after (take workers old) (take workers new) result → drop workers new ≡ drop workers old →
    Runs seen words before after old new (ended result)
task_runs seen words before after old new (task.Run schema query n units verify) workers calls result is ends behind =
    run schema.now query.now n units workers calls verify result is ends behind
task_runs seen words before after old new (task.Batch schema queries n units) workers calls result is ends behind =
    batch schema.now queries.now n units workers calls result is ends behind
task_runs seen words before after old new (task.Exec schema plan) workers calls result is ends behind = exec schema.now plan.now workers calls result is ends behind
task_runs seen words before after old new (task.Crawl schema) workers calls result is ends behind = crawl schema.now workers calls result is ends behind
task_runs seen words before after old new (task.Reach schema query) workers calls result is ends behind = reach schema.now query.now workers calls result is ends behind
