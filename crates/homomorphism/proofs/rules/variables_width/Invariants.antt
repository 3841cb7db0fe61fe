use Rattle.std.proofs.Common.{◌≡◌, max, length}
use Rattle.meaning.specs.Triggers.{bound}
use Rattle.homomorphism.proofs.rules.variables_width.Given as goal

abbrev pub invariant-loop-left : goal.invariant-loop-left
invariant-loop-left l = max l.width (bound l.left) ≡ bound l.atoms

abbrev pub decreases-loop-left : goal.decreases-loop-left
decreases-loop-left l = length l.left
