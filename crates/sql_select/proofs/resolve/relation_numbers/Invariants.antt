use Rattle.std.proofs.Common.{◌≡◌, ◌≤◌, ◌+◌, ◌++◌, length}
use Rattle.sql_select.specs.Resolving.{rels_of}
use Rattle.sql_select.proofs.resolve.relation_numbers.Given as goal

-- the relations of the items that were passed, and of those that are left
abbrev pub invariant-loop-left : goal.invariant-loop-left
invariant-loop-left l = record { done : l.rels ++ rels_of l.relations l.left ≡ rels_of l.relations l.froms; few : length l.rels + length l.left ≤ length l.froms }

abbrev pub decreases-loop-left : goal.decreases-loop-left
decreases-loop-left l = length l.left
