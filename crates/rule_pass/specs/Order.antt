-- The rule order as a list of rule numbers.
use Rattle.std.specs.Prelude.{ℕ, ◌<◌, List, Contains, length, slice_index}
use Rattle.meaning.specs.declared.types.Rule.{Rule}
use Rattle.meaning.specs.RuleOrder.{IsLevel, StandsBefore}

-- A list is the rule order where each relation has a level, and the list has each rule's number, one that stands
-- before another coming first.
pub record IsRuleOrder (rules : List Rule) (order : List ℕ) : Type 0 where
  pub levels : (rel : ℕ) → (level : ℕ) × IsLevel rules rel level
  pub each : (number : ℕ) → number < length rules → Contains order number
  pub within : (number : ℕ) → Contains order number → number < length rules
  pub ascends : (j k : ℕ) → j < k → k < length order →
      StandsBefore rules (slice_index order j) (slice_index order k)
