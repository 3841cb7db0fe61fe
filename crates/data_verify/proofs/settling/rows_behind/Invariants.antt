use Rattle.std.proofs.Common.{◌≡◌, ◌++◌}
use Rattle.data_verify.proofs.settling.rows_behind.Given as goal

abbrev pub invariant-loop-row : goal.invariant-loop-row
invariant-loop-row l = l.rows ≡ l.initial.rows ++ l.yielded
