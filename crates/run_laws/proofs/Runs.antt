-- A run of the program whose words are `world N`.
use Rattle.std.proofs.Common.{◌≡◌, ◌<◌, ◌≤◌, ℕ, zero, suc, List, [], ◌∷◌, length, take, refl, subst}
use Rattle.source_trait.specs.Asking.{Seen}
use Rattle.source_trait.specs.Lanes.{LanesStay}
use Rattle.source_trait.specs.declared.lanes.Lane.{Lane}
use Rattle.middleware.specs.LaneBranches.{OnEach}
use Rattle.command_io.specs.declared.exit_status.Status.{Status}
use Rattle.command_io.specs.Moments.{Moment, outputs_of}
use Rattle.command_words.specs.Words.{Command, IsCommand}
use Rattle.command_words.specs.Words.Command.{Help, Schema as Print, Explain, Run, Batch, Exec, Check, Verify, Crawl, Reach, World}
use Rattle.pdq_core.specs.Runs.{Runs}
use Rattle.pdq_core.specs.Runs.Runs.{no_command, help, schema as print_schema, explain, run, batch, exec, check, verify as verify_rules, crawl, reach, world}
use Rattle.pdq_core.specs.Generators.{HasGenerator}
use Rattle.run_laws.specs.Ends.{WorldIsOver, RunIsOver}
use Rattle.run_laws.proofs.Ends.{world_over}

module _ {S : Type 0} (seen : S → Seen) where
  -- the first lanes stay where all do
  pub first_stay : (n : ℕ) (old new : List (Lane S)) → LanesStay seen old new → LanesStay seen (take n old) (take n new)
  first_stay zero old new stay = tt
  first_stay (suc n) [] [] stay = tt
  first_stay (suc n) [] (u ∷ us) stay = absurd stay
  first_stay (suc n) (w ∷ ws) [] stay = absurd stay
  first_stay (suc n) (w ∷ ws) (u ∷ us) stay = (stay.0, first_stay n ws us stay.1)

module _ {S : Type 0} (seen : S → Seen) (old new : List (Lane S)) where
  -- what is given of these lanes
  pub record IsGenerated (size workers : ℕ) : Type 0 where
    pub some : 1 ≤ size
    pub few : size ≤ 10000
    pub lane : 0 < length (take workers old)
    pub lanes : OnEach (take workers old) (HasGenerator seen)
    pub stay : LanesStay seen (take workers old) (take workers new)

  -- the command is `world` of the size, with what is given
  abbrev Given : ℕ → Command → Type 0
  Given size (World other workers) = (other ≡ size) × IsGenerated other workers
  Given size _ = ⊥

  module _ (words : List (List ℕ)) (before after : Moment) (one : (command other : Command) → IsCommand words command → IsCommand words other → command ≡ other) (size workers : ℕ) (is : IsCommand words (World size workers)) (given : IsGenerated size workers) where
    its : (other : Command) → IsCommand words other → Given size other
    its other also = subst (Given size) (one (World size workers) other is also) (refl, given)

    pub run_over : (status : Status) → Runs seen words before after old new status → RunIsOver size before after status
    run_over _ (no_command end none why quiet same) = absurd (none (World size workers) is)
    run_over _ (help result also ends same) = absurd (its Help also)
    run_over _ (print_schema name result also ends same) = absurd (its (Print name) also)
    run_over _ (explain name query firings search result also ends same) = absurd (its (Explain name query firings search) also)
    run_over _ (run name query firings search lanes calls verify result also ends behind) = absurd (its (Run name query firings search lanes calls verify) also)
    run_over _ (batch name queries firings search lanes calls result also ends behind) =
        absurd (its (Batch name queries firings search lanes calls) also)
    run_over _ (exec name plan lanes calls result also ends behind) = absurd (its (Exec name plan lanes calls) also)
    run_over _ (check name query plan firings result also ends same) = absurd (its (Check name query plan firings) also)
    run_over _ (verify_rules name result also ends) = absurd (its (Verify name) also)
    run_over _ (crawl name lanes calls result also ends behind) = absurd (its (Crawl name lanes calls) also)
    run_over _ (reach name query lanes calls result also ends behind) = absurd (its (Reach name query lanes calls) also)
    run_over _ (world other lanes result also ends behind) =
        let (same, had) = its (World other lanes) also in
        let over = world_over seen other had.some had.few (outputs_of before) (outputs_of after) (take lanes old) (take lanes new) had.lane had.lanes had.stay result ends in
        (result, refl, subst (λ n. WorldIsOver n (outputs_of before) (outputs_of after) result) same over)
