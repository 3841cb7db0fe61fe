-- What an execution does where the rules are tested before it.
use Rattle.std.specs.Prelude.{ℕ, List, None, Some, Result, Ok, Err}
use Rattle.meaning.specs.declared.types.Plan.{Plan}
use Rattle.access_schema.specs.declared.schema.Schema.{Schema}
use Rattle.source_trait.specs.Asking.{Seen}
use Rattle.source_trait.specs.declared.lanes.Lane.{Lane}
use Rattle.plan_execution.specs.Executing.{ExecutesAttached}
use Rattle.middleware.specs.declared.fault.Run.{Run}
use Rattle.middleware.specs.declared.fault.RunFault.{RunFault}
use Rattle.data_verify.specs.declared.broken.Broken.{Broken}
use Rattle.rule_rows.specs.RuleRelations.{needed_verified}
use Rattle.rule_rows.specs.Verifying.{Verifies}
use Rattle.rule_rows.specs.declared.fault.VerifyFault.{VerifyFault}
use Rattle.rule_rows.specs.declared.fault.VerifiedFault.{VerifiedFault}
use Rattle.rule_rows.specs.declared.fault.VerifiedFault.TheVariants as fault

-- What became of the plan: the rules were not tested; or one is not met, and nothing was asked for the plan; or all are met, and the plan was
-- executed on the lanes as the tests left them, or that stopped. The requests that are counted are those of the plan alone.
pub data RunsVerified {S : Type 0} (seen : S → Seen) (schema : Schema) (plan : Plan) (cap : ℕ) (old new : List (Lane S)) : Result Run VerifiedFault → Type 0 where
  not_verified : (why : VerifyFault) → Verifies seen schema (needed_verified schema plan) old new (Err why)
      → RunsVerified seen schema plan cap old new (Err (fault.NotVerified why))
  not_met : (broken : Broken) → Verifies seen schema (needed_verified schema plan) old new (Ok (Some broken))
      → RunsVerified seen schema plan cap old new (Err (fault.NotMet broken))
  halted : (middle : List (Lane S)) (why : RunFault) → Verifies seen schema (needed_verified schema plan) old middle (Ok None)
      → ExecutesAttached seen schema plan cap middle new (Err why) → RunsVerified seen schema plan cap old new (Err (fault.NotExecuted why))
  ran : (middle : List (Lane S)) (run : Run) → Verifies seen schema (needed_verified schema plan) old middle (Ok None)
      → ExecutesAttached seen schema plan cap middle new (Ok run) → RunsVerified seen schema plan cap old new (Ok run)
