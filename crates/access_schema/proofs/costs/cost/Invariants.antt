use Rattle.std.proofs.Common.{length}
use Rattle.access_schema.specs.Meaning.{meaning_of}
use Rattle.access_schema.proofs.Summing.{Summed}
use Rattle.access_schema.proofs.costs.cost.Given as goal

-- with the cost of the steps that are left, the sum is that of all
abbrev pub invariant-loop-left : goal.invariant-loop-left
invariant-loop-left l = Summed (meaning_of l.schema) l.branch.steps l.left l.sum

abbrev pub decreases-loop-left : goal.decreases-loop-left
decreases-loop-left l = length l.left
