-- Triggers whose labels may have been given before (the chase in which a rule invents each of its labels once).
use Rattle.std.specs.Prelude.{List}
use Rattle.meaning.specs.declared.types.Ground.{Ground}
use Rattle.meaning.specs.declared.types.Rule.{Rule}
use Rattle.meaning.specs.declared.types.Trigger.{Trigger}
use Rattle.meaning.specs.Triggers.{IsTrigger}

-- A trigger of some rule at the facts, which may have the labels that it gives.
abbrev pub IsSharedTrigger : List Rule → List Ground → Trigger → Type 0
IsSharedTrigger rules facts trigger =
    (rule : Rule) × IsTrigger rules (record { facts = facts; next = trigger.fresh }) trigger rule
