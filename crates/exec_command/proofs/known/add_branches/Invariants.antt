use Rattle.std.proofs.Common.{◌≡◌, ◌++◌, take, flat_map}
use Rattle.exec_command.specs.Known.{constants_of_branch}
use Rattle.exec_command.proofs.known.add_branches.Given as goal

abbrev pub invariant-loop-branch : goal.invariant-loop-branch
invariant-loop-branch l = l.texts.items ≡ l.fn.texts.items ++ flat_map constants_of_branch (take l.branch-index l.branches)
