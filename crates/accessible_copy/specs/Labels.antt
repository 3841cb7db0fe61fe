-- Where the labels of the copy come from.
use Rattle.std.specs.Prelude.{◌≡◌, ◌⊎◌, ℕ, ◌+◌, ◌-◌, ◌<◌, ◌≤◌, List, Contains, slice_get, Some}
use Rattle.meaning.specs.declared.types.SchemaParts.{SchemaParts}
use Rattle.meaning.specs.declared.types.Rule.{Rule}
use Rattle.meaning.specs.declared.types.Trigger.{Trigger}
use Rattle.meaning.specs.declared.types.Firing.{Firing}
use Rattle.meaning.specs.declared.types.Firing.TheVariants.{Copy}
use Rattle.meaning.specs.declared.types.Val.TheVariants.{Label}
use Rattle.meaning.specs.Triggers.{bound}
use Rattle.meaning.specs.Runs.{IsKnownValue}
use Rattle.accessible_copy.specs.Proving.{Proving, log_of}

-- A copy firing of the log made the label: it is one of those that the firing gave to the existential variables.
abbrev pub IsMadeInCopy : SchemaParts → List Firing → ℕ → Type 0
IsMadeInCopy schema log k =
    (trigger : Trigger) × (rule : Rule) × Contains log (Copy trigger) × (slice_get schema.rules trigger.rule ≡ Some rule)
    × (trigger.fresh ≤ k) × (k < trigger.fresh + (bound rule.head - bound rule.body))

-- The label is a known value, or a copy firing made it.
abbrev pub IsKnownOrMade : SchemaParts → Proving → ℕ → Type 0
IsKnownOrMade schema proof k = IsKnownValue proof.constants proof.end.exposed (Label k) ⊎ IsMadeInCopy schema (log_of proof) k
