use Rattle.std.proofs.Common.{◌≡◌, take}
use Rattle.std.specs.Prelude.{map}
use Rattle.sql_conjunctive.specs.Rows.{head_under}
use Rattle.sql_conjunctive.proofs.rows.head_rows.Given as goal

abbrev pub invariant-loop-assignment : goal.invariant-loop-assignment
invariant-loop-assignment l = l.rows.items ≡ map (head_under l.head) (take l.assignment-index l.assignments)
