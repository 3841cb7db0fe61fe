use Rattle.std.proofs.Common.{◌≡◌, ◌++◌, length}
use Rattle.access_schema.specs.Content.{relations_of}
use Rattle.access_schema.proofs.content.relations_of.Given as goal

-- those so far, and those of the parts that are left
abbrev pub invariant-loop-left : goal.invariant-loop-left
invariant-loop-left l = relations_of l.parts ≡ l.relations.items ++ relations_of l.left

abbrev pub decreases-loop-left : goal.decreases-loop-left
decreases-loop-left l = length l.left
