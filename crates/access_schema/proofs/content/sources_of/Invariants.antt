use Rattle.std.proofs.Common.{◌≡◌, ◌++◌, length}
use Rattle.access_schema.specs.Content.{sources_of}
use Rattle.access_schema.proofs.content.sources_of.Given as goal

-- those so far, and those of the parts that are left
abbrev pub invariant-loop-left : goal.invariant-loop-left
invariant-loop-left l = sources_of l.relations l.parts ≡ l.sources.items ++ sources_of l.relations l.left

abbrev pub decreases-loop-left : goal.decreases-loop-left
decreases-loop-left l = length l.left
