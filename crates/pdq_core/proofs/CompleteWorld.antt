-- The command `world` is answered.
use Rattle.std.proofs.Common.{◌≡◌, ℕ, false, List, [], Result, refl, subst}
use Rattle.meaning.specs.declared.types.Plan.{Plan}
use Rattle.meaning.specs.declared.types.Statement.{Statement}
use Rattle.access_schema.specs.declared.schema.Schema.{Schema}
use Rattle.findings.specs.declared.decision.Chosen.{Chosen}
use Rattle.tgd_reader.proofs.Exactly.{no_fault as schema_fault}
use Rattle.sql_select.specs.Statements.{IsStatementText}
use Rattle.sql_select.proofs.Unique.{one_statement, no_fault as query_fault}
use Rattle.source_trait.specs.Asking.{Seen}
use Rattle.source_trait.specs.declared.lanes.Lane.{Lane}
use Rattle.command_io.specs.declared.stop.Stop.{Stop}
use Rattle.command_io.specs.declared.stop.Stop.TheVariants as stop
use Rattle.command_io.specs.declared.outcome.Outcome.{Outcome}
use Rattle.command_io.specs.declared.delivery.TheConstants.{CALLS}
use Rattle.command_io.specs.Moments.{Moment, outputs_of}
use Rattle.command_io.specs.FaultLines.{Names}
use Rattle.world_source.specs.Texts.{schema_text, query_text}
use Rattle.run_command.specs.Deciding.{IsPlanned}
use Rattle.run_command.specs.World.{IsSummary, WorldEnds, WorldStop}
use Rattle.run_command.specs.World.WorldEnds.{refused, read}
use Rattle.run_command.specs.World.WorldStop.{no_memory, no_schema, no_statement}
use Rattle.run_command.specs.declared.world.TheConstants.{FIRINGS, UNITS}
use Rattle.pdq_core.specs.Runs.{ended}
use Rattle.pdq_core.specs.Complete.{IsAnswered, NoneRose, CanExecute, IsPrinted, WorldIsSupplied}
use Rattle.pdq_core.proofs.CompleteTexts.{one_schema, stop_answered}
use Rattle.pdq_core.proofs.CompleteRun.{statement_answered}

module _ {S : Type 0} (seen : S → Seen) (size : ℕ) (before after : Moment) (old new : List (Lane S)) (calm : NoneRose before after)
    (given : WorldIsSupplied seen size before after old new) where
  -- texts of a schema and of a statement are refused for lack of memory alone
  world_stop : (end : Stop) → WorldStop size end → end ≡ stop.Memory
  world_stop end no_memory = refl
  world_stop end (no_schema fault apart is) = absurd (apart (schema_fault (schema_text size) given.schema fault given.schema_is is))
  world_stop end (no_statement other fault is apart why) =
      let schemas = one_schema (schema_text size) given.schema other given.schema_is is in
      let statement_is = subst (λ (s : Schema). IsStatementText s query_text given.statement) schemas given.statement_is in
      absurd (apart (query_fault other query_text given.statement fault statement_is why))

  pub world_answered : (result : Result Outcome Stop) → WorldEnds seen size (outputs_of before) (outputs_of after) old new result → IsAnswered (ended result)
  world_answered result (refused end why quiet same) = stop_answered end world_stop why
  world_answered result (read other its same_result is are ends) =
      let schemas = one_schema (schema_text size) given.schema other given.schema_is is in
      let statement_is = subst (λ (s : Schema). IsStatementText s query_text given.statement) schemas given.statement_is in
      let statements = one_statement other query_text given.statement its statement_is are in
      let names : Names = record { schema = []; query = []; plan = []; relations = other.relations } in
      let able : (plan : Plan) (entries : List Chosen) → IsPlanned other its FIRINGS UNITS plan entries → IsPrinted entries plan before after → CanExecute seen other plan CALLS old new =
      subst (λ (t : Statement). (plan : Plan) (entries : List Chosen) → IsPlanned other t FIRINGS UNITS plan entries → IsPrinted entries plan before after → CanExecute seen other plan CALLS old new) statements
      (subst (λ (s : Schema). (plan : Plan) (entries : List Chosen) → IsPlanned s given.statement FIRINGS UNITS plan entries → IsPrinted entries plan before after → CanExecute seen s plan CALLS old new) schemas
      given.execution) in
      statement_answered seen other its names before after old new calm FIRINGS UNITS CALLS false (IsSummary seen size other its new) able result ends
