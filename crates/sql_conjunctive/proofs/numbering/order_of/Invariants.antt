use Rattle.std.proofs.Common.{◌≡◌, [], length}
use Rattle.sql_conjunctive.specs.Numbering.{order_through}
use Rattle.sql_conjunctive.proofs.numbering.order_of.Given as goal

abbrev pub invariant-loop-left : goal.invariant-loop-left
invariant-loop-left l = order_through l.seen.items l.left ≡ order_through [] l.atoms

abbrev pub decreases-loop-left : goal.decreases-loop-left
decreases-loop-left l = length l.left
