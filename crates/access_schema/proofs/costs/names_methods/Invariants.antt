use Rattle.std.proofs.Common.{length}
use Rattle.access_schema.specs.Meaning.{meaning_of}
use Rattle.access_schema.proofs.Summing.{AreAsLeft}
use Rattle.access_schema.proofs.costs.names_methods.Given as goal

-- the steps so far name methods
abbrev pub invariant-loop-left : goal.invariant-loop-left
invariant-loop-left l = AreAsLeft (meaning_of l.schema) l.branch.steps l.left

abbrev pub decreases-loop-left : goal.decreases-loop-left
decreases-loop-left l = length l.left
