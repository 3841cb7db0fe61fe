-- How the command `verify` ends.
use Rattle.std.specs.Prelude.{◌≡◌, ◌⊎◌, ℕ, List, [], Option, None, Some, Result, Ok, Err}
use Rattle.access_schema.specs.declared.schema.Schema.{Schema}
use Rattle.source_trait.specs.Asking.{Seen}
use Rattle.source_trait.specs.Causes.{Rose}
use Rattle.source_trait.specs.declared.lanes.Lane.{Lane}
use Rattle.data_verify.specs.declared.broken.Broken.{Broken}
use Rattle.data_verify.specs.Telling.{verification_text}
use Rattle.command_io.specs.declared.stop.Stop.{Stop}
use Rattle.command_io.specs.declared.outcome.Outcome.{Outcome}
use Rattle.command_io.specs.declared.outcome.Outcome.TheVariants as outcome
use Rattle.command_io.specs.Inputs.{SchemaIsRead, SchemaStop}
use Rattle.command_io.specs.Moments.{Moment, ResultStop}
use Rattle.command_io.specs.Writing.{TookAll, TookPart}
use Rattle.command_io.specs.Telling.{StopsFor}
use Rattle.command_io.specs.Verified.{stop_of_verify}
use Rattle.rule_rows.specs.RuleRelations.{needed_first}
use Rattle.rule_rows.specs.Verifying.{Verifies, others}
use Rattle.rule_rows.specs.declared.fault.VerifyFault.{VerifyFault}

-- What testing the rules gave, as a command sees it: why they were not tested is a stop.
abbrev pub TestsOrStops : {S : Type 0} → (S → Seen) → Schema → List (Lane S) → List (Lane S) → Result (Option Broken) Stop → Type 0
TestsOrStops seen schema old new (Ok found) = Verifies seen schema (needed_first schema) old new (Ok found)
TestsOrStops seen schema old new (Err end) =
    (why : VerifyFault) × Verifies seen schema (needed_first schema) old new (Err why) × (end ≡ stop_of_verify why)

-- The outcome is done where no rule is broken, and no where one is.
abbrev pub outcome_of : Option Broken → Outcome
outcome_of None = outcome.Done
outcome_of (Some broken) = outcome.No

-- The four ways: no schema was read, and nothing but the line was written; the rows were not verified; they were, and the text
-- of that was not written whole, but nothing or a first part of it that is not all; or it was, and the answer is whether the rules are met. The lanes behind the first always stay.
pub data VerifyEnds {S : Type 0} (seen : S → Seen) (name : List ℕ) (before after : Moment) (old new : List (Lane S)) : Result Outcome Stop → Type 0 where
  no_schema : (end : Stop) →
      StopsFor (SchemaStop before.files name (Rose before.file_faults after.file_faults))
      (record { schema = name; query = []; plan = []; relations = [] }) before.err after.err (Rose before.err_faults after.err_faults) end →
      after.out ≡ before.out → new ≡ old → VerifyEnds seen name before after old new (Err end)
  stopped : (schema : Schema) (why end : Stop) → SchemaIsRead before.files name schema →
      TestsOrStops seen schema old new (Err why) → others new ≡ others old →
      StopsFor (λ given. given ≡ why)
      (record { schema = name; query = []; plan = []; relations = schema.relations }) before.err after.err (Rose before.err_faults after.err_faults) end →
      after.out ≡ before.out → VerifyEnds seen name before after old new (Err end)
  cut : (schema : Schema) (found : Option Broken) (end : Stop) → SchemaIsRead before.files name schema →
      TestsOrStops seen schema old new (Ok found) → others new ≡ others old →
      (after.out ≡ before.out) ⊎ TookPart before.out after.out (verification_text schema found) →
      StopsFor (ResultStop (Rose before.out_faults after.out_faults))
      (record { schema = name; query = []; plan = []; relations = schema.relations }) before.err after.err (Rose before.err_faults after.err_faults) end →
      VerifyEnds seen name before after old new (Err end)
  done : (schema : Schema) (found : Option Broken) → SchemaIsRead before.files name schema →
      TestsOrStops seen schema old new (Ok found) → others new ≡ others old → TookAll before.out after.out (verification_text schema found) →
      after.err ≡ before.err → VerifyEnds seen name before after old new (Ok (outcome_of found))
