-- Logs with the sizes before each firing.
use Rattle.std.specs.Prelude.{ℕ, List, [], ◌∷◌, ◌++◌, Bool, true, false}
use Rattle.meaning.specs.declared.types.Trigger.{Trigger}
use Rattle.meaning.specs.declared.types.Firing.{Firing}
use Rattle.meaning.specs.declared.types.Firing.TheVariants.{Base, Copy}
use Rattle.accessible_copy.specs.declared.entry.Sizes.{Sizes}
use Rattle.accessible_copy.specs.declared.entry.Entry.{Entry}

-- The entries so far, which kind the next trigger is, and the sizes, of which those of that kind are told with it.
pub record Written : Type 0 where
  pub entries : List Entry
  pub copies : Bool
  pub held : Sizes

-- A trigger of a copy rule, or of a base rule.
abbrev pub firing_of : Bool → Trigger → Firing
firing_of true trigger = Copy trigger
firing_of false trigger = Base trigger

-- The sizes with another number of facts of that kind, and another next label.
abbrev pub sizes_at : Bool → Sizes → ℕ → ℕ → Sizes
sizes_at true now facts next = record now { copy = facts; next = next }
sizes_at false now facts next = record now { base = facts; next = next }

-- One more firing of a trigger, before which there were so many facts of its kind.
abbrev pub logged : Written → Trigger → ℕ → Written
logged log trigger facts = record log {
  entries = log.entries ++ record {
    firing = firing_of log.copies trigger;
    before = sizes_at log.copies log.held facts trigger.fresh;
  } ∷ [];
}
