use Rattle.std.proofs.Common.{◌≡◌, Contains, length}
use Rattle.meaning.specs.Triggers.{bound}
use Rattle.homomorphism.specs.declared.assignment.Assignment.{Assignment}
use Rattle.rule_growth.proofs.matching.is_wanting.Given as goal

abbrev pub invariant-loop-walk : goal.invariant-loop-walk
invariant-loop-walk l = (m : Assignment) → Contains l.walk m → length m.vals ≡ bound l.rule.body

abbrev pub decreases-loop-walk : goal.decreases-loop-walk
decreases-loop-walk l = length l.walk
