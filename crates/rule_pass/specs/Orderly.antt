-- What firing asks of rules. The rules of every schema are so.
use Rattle.std.specs.Prelude.{◌≤◌, List, Contains, length}
use Rattle.meaning.specs.declared.types.Rule.{Rule}
use Rattle.meaning.specs.Triggers.{AreNumbered, bound}
use Rattle.access_schema.specs.declared.limits.TheConstants.{MOST_RULES, MOST_VARIABLES}
use Rattle.access_schema.specs.Feeding.{AreNonRecursive}

-- Rules are orderly where they are few, have bodies and number their variables through, and no chain of feeding leads
-- from a relation back to itself.
pub record AreOrderly (rules : List Rule) : Type 0 where
  pub few : length rules ≤ MOST_RULES
  pub bodies : (rule : Rule) → Contains rules rule → 1 ≤ length rule.body
  pub numbered : AreNumbered rules
  pub variables : (rule : Rule) → Contains rules rule → bound rule.head ≤ MOST_VARIABLES
  pub non_recursive : AreNonRecursive rules
