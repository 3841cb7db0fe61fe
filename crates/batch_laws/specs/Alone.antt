-- A run of a query, and a batch of it, each over lanes of its own.
use Rattle.std.specs.Prelude.{◌≡◌, ℕ, List, Some, Result}
use Rattle.meaning.specs.declared.types.Fact.{Fact}
use Rattle.access_schema.specs.declared.schema.Schema.{Schema}
use Rattle.source_trait.specs.Asking.{Seen}
use Rattle.source_trait.specs.declared.lanes.Lane.{Lane}
use Rattle.middleware.specs.Held.{HoldNeeded}
use Rattle.middleware.specs.LaneBranches.{OnEach}
use Rattle.command_io.specs.Inputs.{Contents}
use Rattle.command_io.specs.Moments.{Moment}
use Rattle.command_io.specs.declared.outcome.Outcome.{Outcome}
use Rattle.command_io.specs.declared.stop.Stop.{Stop}
use Rattle.run_command.specs.Ends.{RunEnds}
use Rattle.run_command.specs.declared.settings.Limits.{Limits}
use Rattle.run_command.specs.declared.settings.Settings.{Settings}
use Rattle.batch_command.specs.Ends.{BatchEnds}

-- The files, outputs and lanes of a command before and after it.
pub record Went (S : Type 0) : Type 0 where
  pub before : Moment
  pub after : Moment
  pub old : List (Lane S)
  pub new : List (Lane S)

module _ {S : Type 0} (seen : S → Seen) where
  -- it was `run`, with some settings, on files of these names and bytes, and ended so
  abbrev pub IsRun : List ℕ → List ℕ → Contents → Went S → Result Outcome Stop → Type 0
  IsRun schema_name query_name files went result =
      (settings : Settings) × (went.before.files ≡ Some files)
      × RunEnds seen schema_name query_name settings went.before went.after went.old went.new result

  -- it was `batch`, within some limits, on files of these names and bytes, and ended so
  abbrev pub IsBatch : List ℕ → List ℕ → Contents → Went S → Result Outcome Stop → Type 0
  IsBatch schema_name query_name files went result =
      (limits : Limits) × (went.before.files ≡ Some files)
      × BatchEnds seen schema_name query_name limits went.before went.after went.old went.new result

  -- each lane holds just the facts of the instance, in every relation that has a source line
  abbrev pub LanesHold : Schema → List (Lane S) → List Fact → Type 0
  LanesHold schema lanes instance = OnEach lanes (λ kinds. HoldNeeded seen schema (λ rel. Unit {0}) kinds instance)
