use Rattle.std.proofs.Common.{◌≡◌, ◌++◌, take, flat_map}
use Rattle.exec_command.specs.Known.{constant_out}
use Rattle.exec_command.proofs.known.add_outs.Given as goal

abbrev pub invariant-loop-out : goal.invariant-loop-out
invariant-loop-out l = l.texts.items ≡ l.fn.texts.items ++ flat_map constant_out (take l.out-index l.outs)
