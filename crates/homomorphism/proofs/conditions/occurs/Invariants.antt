use Rattle.std.proofs.Common.{◌↔◌, length}
use Rattle.meaning.specs.Matching.{OccursIn}
use Rattle.homomorphism.proofs.conditions.occurs.Given as goal

abbrev pub invariant-loop-left : goal.invariant-loop-left
invariant-loop-left l = OccursIn l.atoms l.variable ↔ OccursIn l.left l.variable

abbrev pub decreases-loop-left : goal.decreases-loop-left
decreases-loop-left l = length l.left
