use Rattle.std.proofs.Common.{◌≡◌}
use Rattle.exec_command.specs.Known.{column_names}
use Rattle.exec_command.proofs.known.column_names.Given as goal

abbrev pub invariant-loop-number : goal.invariant-loop-number
invariant-loop-number l = l.names.items ≡ column_names l.number
