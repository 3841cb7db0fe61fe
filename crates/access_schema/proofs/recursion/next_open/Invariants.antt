use Rattle.std.proofs.Common.{◌≡◌, length}
use Rattle.std.specs.List.{find}
use Rattle.access_schema.specs.Marks.{is_open}
use Rattle.access_schema.specs.Links.{AreBelow}
use Rattle.access_schema.proofs.recursion.next_open.Given as goal

-- no link that was passed is open
abbrev pub invariant-loop-left : goal.invariant-loop-left
invariant-loop-left l = record { first : find (is_open l.marks) l.links ≡ find (is_open l.marks) l.left; below : AreBelow (length l.marks) l.left }

abbrev pub decreases-loop-left : goal.decreases-loop-left
decreases-loop-left l = length l.left
