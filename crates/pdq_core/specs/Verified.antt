-- What the status of a run of `run` says where the rules are tested first.
use Rattle.std.specs.Prelude.{◌⊎◌, ℕ, true, List, take, Option}
use Rattle.meaning.specs.declared.types.Fact.{Fact}
use Rattle.meaning.specs.Matching.{Meets}
use Rattle.access_schema.specs.declared.schema.Schema.{Schema}
use Rattle.access_schema.specs.Meaning.{meaning_of}
use Rattle.proof_search.specs.Plans.{HasNoPlan}
use Rattle.source_trait.specs.Asking.{Seen}
use Rattle.source_trait.specs.declared.lanes.Lane.{Lane}
use Rattle.middleware.specs.Held.{HoldNeeded}
use Rattle.rule_rows.specs.RuleRelations.{RulesName}
use Rattle.rule_rows.specs.Verifying.{used}
use Rattle.command_io.specs.declared.exit_status.Status.{Status}
use Rattle.command_io.specs.declared.exit_status.Status.TheVariants as is
use Rattle.command_io.specs.Inputs.{Contents}
use Rattle.command_words.specs.Words.{Command}
use Rattle.command_words.specs.Words.Command.{Run}
use Rattle.pdq_core.specs.Statuses.{HasPlan, RunsOn, ReadAs}

-- Whatever instance the first lane holds, as far as the rules name relations, meets the rules.
abbrev pub AreMet : {S : Type 0} → (S → Seen) → List (Lane S) → Schema → Type 0
AreMet seen lanes schema = (instance : List Fact) → HoldNeeded seen schema (RulesName schema) (used lanes) instance → Meets instance (meaning_of schema)

-- No such instance does.
abbrev pub AreBroken : {S : Type 0} → (S → Seen) → List (Lane S) → Schema → Type 0
AreBroken seen lanes schema = (instance : List Fact) → HoldNeeded seen schema (RulesName schema) (used lanes) instance → Meets instance (meaning_of schema) → ⊥

-- Done says that there is a plan and that the rows that the first lane holds meet the rules; no that there is no plan
-- for the instances of integers, or that they break one; and undecided that there is a longer run than the firings
-- given.
abbrev pub SaysVerified : {S : Type 0} → (S → Seen) → List (Lane S) → Status → Option Contents → List ℕ → List ℕ → ℕ → Type 0
SaysVerified seen lanes is.Done told name query firings = ReadAs told name query (λ schema statement. HasPlan schema statement × AreMet seen lanes schema)
SaysVerified seen lanes is.No told name query firings = ReadAs told name query (λ schema statement. HasNoPlan schema statement ⊎ AreBroken seen lanes schema)
SaysVerified seen lanes is.Undecided told name query firings = ReadAs told name query (RunsOn firings)
SaysVerified seen lanes _ told name query firings = Unit {0}

-- That is so of `run` with the flag.
abbrev pub SaysOfVerified : {S : Type 0} → (S → Seen) → Command → Option Contents → List (Lane S) → Status → Type 0
SaysOfVerified seen (Run name query firings search workers calls true) told lanes status = SaysVerified seen (take workers lanes) status told name query firings
SaysOfVerified seen _ told lanes status = Unit {0}
