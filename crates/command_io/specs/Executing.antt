-- How an execution stops a command, and how what is said of it is written.
use Rattle.std.specs.Prelude.{◌≡◌, ◌<◌, ◌^◌, ℕ, List, Contains, Option, Result, Ok, Err, length}
use Rattle.meaning.specs.declared.types.Branch.{Branch}
use Rattle.meaning.specs.declared.types.Plan.{Plan}
use Rattle.access_schema.specs.declared.schema.Schema.{Schema}
use Rattle.source_trait.specs.Asking.{Seen}
use Rattle.source_trait.specs.declared.lanes.Lane.{Lane}
use Rattle.middleware.specs.declared.fault.Run.{Run}
use Rattle.middleware.specs.declared.fault.RunFault.{RunFault}
use Rattle.middleware.specs.declared.fault.RunFault.TheVariants as fault
use Rattle.plan_execution.specs.Executing.{Executes}
use Rattle.command_io.specs.declared.stop.Stop.{Stop}
use Rattle.command_io.specs.declared.stop.Stop.TheVariants as stop
use Rattle.command_io.specs.Moments.{ResultStop}
use Rattle.command_io.specs.Writing.{TookAll, TookPart}

-- A plan is short enough for its branches and steps to be numbered.
pub record IsShort (plan : Plan) : Type 0 where
  pub branches : length plan.branches < 2 ^ 32
  pub steps : (branch : Branch) → Contains plan.branches branch → length branch.steps < 2 ^ 32

-- How a fault of the execution stops a command.
abbrev pub stop_of_run : RunFault → Stop
stop_of_run fault.NoMemory = stop.Memory
stop_of_run (fault.NoSource rel) = stop.Run (fault.NoSource rel)
stop_of_run (fault.UnknownKind rel) = stop.Run (fault.UnknownKind rel)
stop_of_run (fault.Attach rel why) = stop.Run (fault.Attach rel why)
stop_of_run (fault.CallFailed branch step) = stop.Run (fault.CallFailed branch step)
stop_of_run (fault.OverCalls made wanted cap) = stop.Run (fault.OverCalls made wanted cap)
stop_of_run (fault.BadNumber rel column) = stop.Run (fault.BadNumber rel column)

-- How a fault of a crawl stops a command: a failed call is named by its round.
abbrev pub stop_of_crawl : RunFault → Stop
stop_of_crawl (fault.CallFailed branch step) = stop.RoundFailed step
stop_of_crawl why = stop_of_run why

-- How a fault of an execution of the query of this number stops a batch: a failed call is named by its query.
abbrev pub stop_of_batch : ℕ → RunFault → Stop
stop_of_batch number (fault.CallFailed branch step) = stop.QueryCall number branch step
stop_of_batch number why = stop_of_run why

-- An execution as a command sees it: a fault of it is the stop that it brings.
abbrev pub ExecutesOrStops : {S : Type 0} → (S → Seen) → Schema → Plan → ℕ → List (Lane S) → List (Lane S) → Result Run Stop → Type 0
ExecutesOrStops seen schema plan cap old new (Ok run) = Executes seen schema plan cap old new (Ok run)
ExecutesOrStops seen schema plan cap old new (Err end) =
    (why : RunFault) × Executes seen schema plan cap old new (Err why) × (end ≡ stop_of_run why)

-- Something was executed, which gave rows or a stop as `Ran` says, and a sink took the text of that, as `IsText` says: whole, or a first part
-- of it, or nothing where there is no text.
pub data Delivers {A : Type 0} (Ran : Result A Stop → Type 0) (IsText : A → List ℕ → Type 0) (out_old out_new : Option (List ℕ)) (rose : Type 0)
    : Result (Unit {0}) Stop → Type 0 where
  -- the text was taken whole
  done : (run : A) (text : List ℕ) → Ran (Ok run) → IsText run text → TookAll out_old out_new text →
      Delivers Ran IsText out_old out_new rose (Ok tt)
  -- the execution stopped
  no_rows : (end : Stop) → Ran (Err end) → out_new ≡ out_old → Delivers Ran IsText out_old out_new rose (Err end)
  -- there was no memory for the text
  no_text : (run : A) → Ran (Ok run) → out_new ≡ out_old → Delivers Ran IsText out_old out_new rose (Err stop.Memory)
  -- the text was not taken whole
  cut : (run : A) (text : List ℕ) (end : Stop) → Ran (Ok run) → IsText run text → TookPart out_old out_new text → ResultStop rose end →
      Delivers Ran IsText out_old out_new rose (Err end)
