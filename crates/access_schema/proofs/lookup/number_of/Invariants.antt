use Rattle.std.proofs.Common.{◌≡◌, ◌+◌, length}
use Rattle.access_schema.specs.Content.{number_of}
use Rattle.access_schema.proofs.lookup.number_of.Given as goal

-- the number is as many on as relations were passed
abbrev pub invariant-loop-left : goal.invariant-loop-left
invariant-loop-left l = record { number : number_of l.relations l.name ≡ l.number + number_of l.left l.name; count : l.number + length l.left ≡ length l.relations }

abbrev pub decreases-loop-left : goal.decreases-loop-left
decreases-loop-left l = length l.left
