use Rattle.std.proofs.Common.{◌≡◌, ◌+◌, ◌≤◌, ◌++◌, length}
use Rattle.sql_conjunctive.specs.Merging.{opening_from}
use Rattle.sql_conjunctive.proofs.merging.opening.Given as goal

abbrev pub invariant-loop-left : goal.invariant-loop-left
invariant-loop-left l = record { few : l.from + length l.left ≤ 16; made : l.atoms.items ++ opening_from l.relations l.from l.left ≡ opening_from l.relations 0 l.froms }

abbrev pub decreases-loop-left : goal.decreases-loop-left
decreases-loop-left l = length l.left
