-- Which words are a command.
use Rattle.std.specs.Prelude.{◌≡◌, ◌≤◌, ℕ, Bool, List, [], ◌∷◌, ◌++◌}
use Rattle.std.specs.Fmt.{decimal}
use Rattle.command_words.specs.Table.{command_word}
use Rattle.command_words.specs.Splits.{Item, Splits, positionals_of, IsSet, IsRaised}
use Rattle.command_words.specs.declared.table.CommandName.{CommandName}
use Rattle.command_words.specs.declared.table.CommandName.TheVariants as name
use Rattle.command_words.specs.declared.table.OptionName.{OptionName}
use Rattle.command_words.specs.declared.table.OptionName.TheVariants.{Firings, Search, Workers, Calls}
use Rattle.command_words.specs.declared.table.FlagName.{FlagName}
use Rattle.command_words.specs.declared.table.FlagName.TheVariants as flag
use Rattle.command_words.specs.declared.command.Command.TheVariants as code
use Rattle.command_words.specs.declared.command.Command.{Command as Coded}
use Rattle.command_words.specs.declared.command.Task.TheVariants as task
use Rattle.command_words.specs.declared.command.Task.{Task}

-- A command, with the names of its files, the numbers of its options, whether its flags are raised, and the size of a world.
pub data Command : Type 0 where
  Help : Command
  Schema : List ℕ → Command
  Explain : List ℕ → List ℕ → ℕ → ℕ → Command
  Run : List ℕ → List ℕ → ℕ → ℕ → ℕ → ℕ → Bool → Command
  Batch : List ℕ → List ℕ → ℕ → ℕ → ℕ → ℕ → Command
  Exec : List ℕ → List ℕ → ℕ → ℕ → Command
  Check : List ℕ → List ℕ → List ℕ → ℕ → Command
  Verify : List ℕ → Command
  Crawl : List ℕ → ℕ → ℕ → Command
  Reach : List ℕ → List ℕ → ℕ → ℕ → Command
  World : ℕ → ℕ → Command

-- an option with its number, or a flag with whether it is raised
pub data Setting : Type 0 where
  Number : OptionName → ℕ → Setting
  Flag : FlagName → Bool → Setting

-- The setting is what the items set.
abbrev pub IsSetting : List Item → Setting → Type 0
IsSetting items (Number option n) = IsSet option items n
IsSetting items (Flag flag up) = IsRaised flag items up

-- Each of the settings is what the items set.
abbrev pub AreSet : List Item → List Setting → Type 0
AreSet items [] = Unit {0}
AreSet items (setting ∷ settings) = IsSetting items setting × AreSet items settings

-- The first word is the command's, and the others are these positionals in this order and, anywhere among them, options and flags
-- of the command which make these settings.
pub record Asks (words : List (List ℕ)) (name : CommandName) (positionals : List (List ℕ)) (settings : List Setting) : Type 0 where
  pub behind : List (List ℕ)
  pub items : List Item
  pub first : words ≡ command_word name ∷ behind
  pub splits : Splits name behind items
  pub in_order : positionals_of items ≡ positionals
  pub are_set : AreSet items settings

abbrev pub firings : ℕ → List Setting
firings n = Number Firings n ∷ []

abbrev pub firings_and_search : ℕ → ℕ → List Setting
firings_and_search n units = Number Firings n ∷ Number Search units ∷ []

abbrev pub workers : ℕ → List Setting
workers n = Number Workers n ∷ []

abbrev pub workers_and_calls : ℕ → ℕ → List Setting
workers_and_calls n calls = Number Workers n ∷ Number Calls calls ∷ []

-- The words are this command.
abbrev pub IsCommand : List (List ℕ) → Command → Type 0
IsCommand words Help = Asks words name.Help [] []
IsCommand words (Schema schema) = Asks words name.Schema (schema ∷ []) []
IsCommand words (Explain schema query n units) = Asks words name.Explain (schema ∷ query ∷ []) (firings_and_search n units)
IsCommand words (Run schema query n units lanes calls verify) =
    Asks words name.Run (schema ∷ query ∷ []) (firings_and_search n units ++ workers_and_calls lanes calls ++ Flag flag.Verify verify ∷ [])
IsCommand words (Batch schema queries n units lanes calls) =
    Asks words name.Batch (schema ∷ queries ∷ []) (firings_and_search n units ++ workers_and_calls lanes calls)
IsCommand words (Exec schema plan lanes calls) = Asks words name.Exec (schema ∷ plan ∷ []) (workers_and_calls lanes calls)
IsCommand words (Check schema query plan n) = Asks words name.Check (schema ∷ query ∷ plan ∷ []) (firings n)
IsCommand words (Verify schema) = Asks words name.Verify (schema ∷ []) []
IsCommand words (Crawl schema lanes calls) = Asks words name.Crawl (schema ∷ []) (workers_and_calls lanes calls)
IsCommand words (Reach schema query lanes calls) = Asks words name.Reach (schema ∷ query ∷ []) (workers_and_calls lanes calls)
IsCommand words (World size lanes) = Asks words name.World (decimal size ∷ []) (workers lanes) × (1 ≤ size) × (size ≤ 10000)

-- The task with its numbers of workers and calls.
abbrev pub task_seen_as : ℕ → ℕ → Task → Command
task_seen_as lanes calls (task.Run schema query n units verify) = Run schema.now query.now n units lanes calls verify
task_seen_as lanes calls (task.Batch schema queries n units) = Batch schema.now queries.now n units lanes calls
task_seen_as lanes calls (task.Exec schema plan) = Exec schema.now plan.now lanes calls
task_seen_as lanes calls (task.Crawl schema) = Crawl schema.now lanes calls
task_seen_as lanes calls (task.Reach schema query) = Reach schema.now query.now lanes calls

abbrev pub seen_as : Coded → Command
seen_as code.Help = Help
seen_as (code.Schema schema) = Schema schema.now
seen_as (code.Explain schema query n units) = Explain schema.now query.now n units
seen_as (code.Check schema query plan n) = Check schema.now query.now plan.now n
seen_as (code.Verify schema) = Verify schema.now
seen_as (code.Calling task lanes calls) = task_seen_as lanes calls task
seen_as (code.World size lanes) = World size lanes
