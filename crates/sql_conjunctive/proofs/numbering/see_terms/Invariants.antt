use Rattle.std.proofs.Common.{◌≡◌, length}
use Rattle.sql_conjunctive.specs.Numbering.{order_in}
use Rattle.sql_conjunctive.proofs.numbering.see_terms.Given as goal

abbrev pub invariant-loop-left : goal.invariant-loop-left
invariant-loop-left l = order_in l.seen.items l.left ≡ order_in l.fn.seen.items l.terms

abbrev pub decreases-loop-left : goal.decreases-loop-left
decreases-loop-left l = length l.left
