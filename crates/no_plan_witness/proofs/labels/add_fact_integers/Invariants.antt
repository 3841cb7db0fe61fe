use Rattle.std.proofs.Common.{◌≡◌, ◌++◌, length}
use Rattle.no_plan_witness.specs.Standing.{integers_among}
use Rattle.no_plan_witness.proofs.labels.add_fact_integers.Given as goal

-- what is left to add comes behind what is added
abbrev pub invariant-loop-columns : goal.invariant-loop-columns
invariant-loop-columns l = l.fn.labels.items ++ integers_among l.sorts l.vals ≡ l.labels.items ++ integers_among l.columns l.left

abbrev pub decreases-loop-columns : goal.decreases-loop-columns
decreases-loop-columns l = length l.left
