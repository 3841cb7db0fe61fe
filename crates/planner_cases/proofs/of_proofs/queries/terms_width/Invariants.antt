use Rattle.std.proofs.Common.{◌≡◌, max, length}
use Rattle.meaning.specs.Triggers.{terms_bound}
use Rattle.planner_cases.proofs.of_proofs.queries.terms_width.Given as goal

abbrev pub invariant-loop-left : goal.invariant-loop-left
invariant-loop-left l = max l.width (terms_bound l.left) ≡ terms_bound l.terms

abbrev pub decreases-loop-left : goal.decreases-loop-left
decreases-loop-left l = length l.left
