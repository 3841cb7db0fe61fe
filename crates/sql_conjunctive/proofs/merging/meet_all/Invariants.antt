use Rattle.std.proofs.Common.{◌≡◌, length}
use Rattle.sql_conjunctive.specs.Merging.{met_all}
use Rattle.sql_conjunctive.proofs.merging.meet_all.Given as goal

abbrev pub invariant-loop-left : goal.invariant-loop-left
invariant-loop-left l = met_all l.atoms.items l.left ≡ met_all l.fn.opened.items l.conditions

abbrev pub decreases-loop-left : goal.decreases-loop-left
decreases-loop-left l = length l.left
