use Rattle.std.proofs.Common.{◌≡◌, length}
use Rattle.access_schema.specs.SortFaults.{pairs_two_sorts}
use Rattle.access_schema.proofs.wrong_sort.pairs_two_sorts.Given as goal

-- two sorts are paired where they are among the pairs that are left
abbrev pub invariant-loop-left : goal.invariant-loop-left
invariant-loop-left l = pairs_two_sorts l.relations l.relation l.columns l.target l.target_columns ≡ pairs_two_sorts l.relations l.relation l.left l.target l.others

abbrev pub decreases-loop-left : goal.decreases-loop-left
decreases-loop-left l = length l.left
