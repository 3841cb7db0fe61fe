use Rattle.std.proofs.Common.{◌≤◌, ◌-◌, length}
use Rattle.sql_conjunctive.specs.Rows.{AreFree}
use Rattle.sql_conjunctive.proofs.rows.no_values.Given as goal

abbrev pub invariant-loop-fixed : goal.invariant-loop-fixed
invariant-loop-fixed l = record { few : length l.fixed ≤ l.variables; free : AreFree l.fixed }

abbrev pub decreases-loop-fixed : goal.decreases-loop-fixed
decreases-loop-fixed l = l.variables - length l.fixed
