-- A run without faults is answered.
use Rattle.std.proofs.Common.{◌≡◌, ℕ, List, take, subst}
use Rattle.source_trait.specs.Asking.{Seen}
use Rattle.source_trait.specs.declared.lanes.Lane.{Lane}
use Rattle.command_io.specs.declared.exit_status.Status.{Status}
use Rattle.command_io.specs.Moments.{Moment}
use Rattle.command_words.specs.Words.{Command, IsCommand}
use Rattle.command_words.specs.Words.Command.{Schema as Print, Explain, Run, Batch, Exec, Check, Verify, Crawl, Reach, World}
use Rattle.pdq_core.specs.Runs.{Runs}
use Rattle.pdq_core.specs.Runs.Runs.{no_command, help, schema as print_schema, explain, run, batch, exec, check, verify as verify_rules, crawl, reach, world}
use Rattle.pdq_core.specs.Complete.{IsAnswered, NoneRose, IsSupplied}
use Rattle.pdq_core.proofs.CompleteSchema.{help_answered, schema_answered}
use Rattle.pdq_core.proofs.CompleteExplain.{explain_answered}
use Rattle.pdq_core.proofs.CompleteRun.{run_answered}
use Rattle.pdq_core.proofs.CompleteBatch.{batch_answered}
use Rattle.pdq_core.proofs.CompleteExec.{exec_answered}
use Rattle.pdq_core.proofs.CompleteCheck.{check_answered}
use Rattle.pdq_core.proofs.CompleteVerify.{verify_answered}
use Rattle.pdq_core.proofs.CompleteCrawl.{crawl_answered, reach_answered}
use Rattle.pdq_core.proofs.CompleteWorld.{world_answered}

module _ {S : Type 0} (seen : S → Seen) (words : List (List ℕ)) (command : Command) (before after : Moment) (old new : List (Lane S)) (one : (other : Command) → IsCommand words command → IsCommand words other → command ≡ other) (is : IsCommand words command)
    (supplied : IsSupplied seen command before after old new) where
  -- what is supplied for the command that the words are
  its : (other : Command) → IsCommand words other → IsSupplied seen other before after old new
  its other also = subst (λ (c : Command). IsSupplied seen c before after old new) (one other is also) supplied

  pub answered : (status : Status) → NoneRose before after → Runs seen words before after old new status → IsAnswered status
  answered status calm (no_command end none why quiet same) = absurd (none command is)
  answered status calm (help result also ends same) = help_answered before after result calm ends
  answered status calm (print_schema name result also ends same) =
      let (schema, given) = its (Print name) also in
      schema_answered name before after result calm schema given ends
  answered status calm (explain name query firings search result also ends same) =
      let given = its (Explain name query firings search) also in
      explain_answered name query firings search before after result calm given.schema given.statement given.schema_given given.query_given ends
  answered status calm (run name query firings search workers calls verify result also ends behind) =
      let given = its (Run name query firings search workers calls verify) also in
      run_answered seen name query firings search calls verify before after (take workers old) (take workers new) result calm given.texts.schema given.texts.statement given.texts.schema_given given.texts.query_given given.execution ends
  answered status calm (batch name queries firings search workers calls result also ends behind) =
      let given = its (Batch name queries firings search workers calls) also in
      batch_answered seen name queries firings search calls before after (take workers old) (take workers new) calm
      given.texts.schema given.texts.statements given.texts.schema_given given.texts.batch_given given.execution result ends
  answered status calm (exec name plan workers calls result also ends behind) =
      let given = its (Exec name plan workers calls) also in
      exec_answered seen name plan calls before after (take workers old) (take workers new) result calm given.schema given.plan given.schema_given given.plan_given given.lawful given.execution ends
  answered status calm (check name query plan firings result also ends same) =
      let given = its (Check name query plan firings) also in
      check_answered name query plan firings before after result calm given.texts.schema given.texts.statement given.plan given.texts.schema_given given.texts.query_given given.plan_given ends
  answered status calm (verify_rules name result also ends) =
      let given = its (Verify name) also in
      verify_answered seen name before after old new result calm given.schema given.schema_given given.tests ends
  answered status calm (crawl name workers calls result also ends behind) =
      let given = its (Crawl name workers calls) also in
      crawl_answered seen name calls before after (take workers old) (take workers new) calm given.schema given.schema_given given.crawl result ends
  answered status calm (reach name query workers calls result also ends behind) =
      let given = its (Reach name query workers calls) also in
      reach_answered seen name calls before after (take workers old) (take workers new) calm given.texts.schema given.texts.schema_given given.crawl
      query given.texts.statement given.texts.query_given result ends
  answered status calm (world size workers result also ends behind) =
      world_answered seen size before after (take workers old) (take workers new) calm (its (World size workers) also) result ends

pub whole : {S : Type 0} (seen : S → Seen) → ((words : List (List ℕ)) (command other : Command) → IsCommand words command → IsCommand words other → command ≡ other) → (words : List (List ℕ)) (command : Command) (before after : Moment) (old new : List (Lane S)) (status : Status) →
    Runs seen words before after old new status → IsCommand words command → NoneRose before after → IsSupplied seen command before after old new → IsAnswered status
whole seen one words command before after old new status runs is calm supplied = answered seen words command before after old new (one words command) is supplied status calm runs
