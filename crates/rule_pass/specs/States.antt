-- Active triggers, and the states that firings lead to (Fagin, Kolaitis, Miller and Popa 2005, the chase).
use Rattle.std.specs.Prelude.{◌≡◌, ℕ, List, [], ◌∷◌, length}
use Rattle.meaning.specs.declared.types.Rule.{Rule}
use Rattle.meaning.specs.declared.types.Trigger.{Trigger}
use Rattle.meaning.specs.Triggers.{State, IsActive, fired}
use Rattle.meaning.specs.Runs.{IsFirstActive}

-- The trigger is active.
abbrev pub IsActiveTrigger : List Rule → State → Trigger → Type 0
IsActiveTrigger rules state trigger = (rule : Rule) × IsActive rules state trigger rule

-- The trigger is active, and no rule that stands before its own has an active one.
abbrev pub IsFirstTrigger : List Rule → State → Trigger → Type 0
IsFirstTrigger rules state trigger = (rule : Rule) × IsFirstActive rules state trigger rule

-- Some trigger is active.
abbrev pub SomeActive : List Rule → State → Type 0
SomeActive rules state = (trigger : Trigger) × IsFirstTrigger rules state trigger

-- A trigger that is active leads from a state to the one after its firing.
pub record Fires (rules : List Rule) (start : State) (trigger : Trigger) (now : State) : Type 0 where
  pub rule : Rule
  pub active : IsActive rules start trigger rule
  pub now_is : now ≡ fired start trigger rule

-- Firings of first active triggers lead from a state and a log to others; `logged` writes a trigger down at the end of
-- a log, with how many facts there were before its firing.
abbrev pub IsPass : {L : Type 0} → (L → Trigger → ℕ → L) → List Rule → State → L → List Trigger → State → L → Type 0
IsPass logged rules first before [] now log = (now ≡ first) × (log ≡ before)
IsPass logged rules first before (trigger ∷ more) now log =
    (rule : Rule) × IsFirstActive rules first trigger rule
    × IsPass logged rules (fired first trigger rule) (logged before trigger (length first.facts)) more now log

-- Some firings lead from a state and a log to others.
abbrev pub Goes : {L : Type 0} → (L → Trigger → ℕ → L) → List Rule → State → L → State → L → Type 0
Goes logged rules first before now log = (more : List Trigger) × IsPass logged rules first before more now log
