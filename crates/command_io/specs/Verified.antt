-- How a command stops where the rules are tested, alone or before an execution.
use Rattle.std.specs.Prelude.{◌≡◌, ◌⊎◌, ℕ, List, Some, Result, Ok, Err}
use Rattle.meaning.specs.declared.types.Plan.{Plan}
use Rattle.access_schema.specs.declared.schema.Schema.{Schema}
use Rattle.source_trait.specs.Asking.{Seen}
use Rattle.source_trait.specs.declared.lanes.Lane.{Lane}
use Rattle.middleware.specs.declared.fault.Run.{Run}
use Rattle.middleware.specs.declared.fault.RunFault.TheVariants as run
use Rattle.data_verify.specs.Telling.{verification_text}
use Rattle.rule_rows.specs.Executing.{RunsVerified}
use Rattle.rule_rows.specs.declared.fault.WholeFault.TheVariants as whole
use Rattle.rule_rows.specs.declared.fault.VerifyFault.{VerifyFault}
use Rattle.rule_rows.specs.declared.fault.VerifyFault.TheVariants as verify
use Rattle.rule_rows.specs.declared.fault.VerifiedFault.{VerifiedFault}
use Rattle.rule_rows.specs.declared.fault.VerifiedFault.TheVariants as verified
use Rattle.command_io.specs.declared.stop.Stop.{Stop}
use Rattle.command_io.specs.declared.stop.Stop.TheVariants as stop
use Rattle.command_io.specs.Executing.{stop_of_run}

-- How it stops a command that the rules were not tested.
abbrev pub stop_of_verify : VerifyFault → Stop
stop_of_verify (verify.NotAttached why) = stop_of_run why
stop_of_verify (verify.NotAsked whole.NoMemory) = stop.Memory
stop_of_verify (verify.NotAsked (whole.CallFailed rel)) = stop.WholeFailed rel
stop_of_verify (verify.NotAsked (whole.BadNumber rel column)) = stop.Run (run.BadNumber rel column)

-- What stops a command of which this became: a broken rule does so with its line, or there was no memory for that.
abbrev pub IsVerifiedStop : Schema → VerifiedFault → Stop → Type 0
IsVerifiedStop schema (verified.NotVerified why) end = end ≡ stop_of_verify why
IsVerifiedStop schema (verified.NotMet broken) end = (end ≡ stop.NotMet (verification_text schema (Some broken))) ⊎ (end ≡ stop.Memory)
IsVerifiedStop schema (verified.NotExecuted why) end = end ≡ stop_of_run why

-- An execution after the rules were tested, as a command sees it.
abbrev pub VerifiesOrStops : {S : Type 0} → (S → Seen) → Schema → Plan → ℕ → List (Lane S) → List (Lane S) → Result Run Stop → Type 0
VerifiesOrStops seen schema plan cap old new (Ok run) = RunsVerified seen schema plan cap old new (Ok run)
VerifiesOrStops seen schema plan cap old new (Err end) =
    (why : VerifiedFault) × RunsVerified seen schema plan cap old new (Err why) × IsVerifiedStop schema why end
