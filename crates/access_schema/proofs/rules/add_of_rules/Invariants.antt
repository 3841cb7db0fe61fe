use Rattle.std.proofs.Common.{◌≡◌, length}
use Rattle.std.specs.Prelude.{flat_map}
use Rattle.access_schema.specs.Lists.{once_after}
use Rattle.access_schema.specs.Content.{rule_constants}
use Rattle.access_schema.proofs.rules.add_of_rules.Given as goal

-- what is known goes on to the same texts
abbrev pub invariant-loop-left : goal.invariant-loop-left
invariant-loop-left l = once_after l.fn.known.items (flat_map rule_constants l.parts) ≡ once_after l.known.items (flat_map rule_constants l.left)

abbrev pub decreases-loop-left : goal.decreases-loop-left
decreases-loop-left l = length l.left
