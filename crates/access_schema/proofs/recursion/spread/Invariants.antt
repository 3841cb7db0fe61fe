use Rattle.std.proofs.Common.{not}
use Rattle.std.specs.Prelude.{count_by}
use Rattle.access_schema.proofs.Circles.{SpreadsSoFar}
use Rattle.access_schema.proofs.recursion.spread.Given as goal

-- the marks are at what the links lead to
abbrev pub invariant-loop-link : goal.invariant-loop-link
invariant-loop-link l = SpreadsSoFar l.links l.fn.marks.items l.marks.items

abbrev pub decreases-loop-link : goal.decreases-loop-link
decreases-loop-link l = count_by not l.marks.items
