use Rattle.std.proofs.Common.{length}
use Rattle.command_words.proofs.Giving.{Sofar}
use Rattle.command_words.proofs.given.read_arguments.Given as goal

-- the words up to here are items that give the arguments
abbrev pub invariant-loop-left : goal.invariant-loop-left
invariant-loop-left l = Sofar l.name l.words l.left l.arguments

abbrev pub decreases-loop-left : goal.decreases-loop-left
decreases-loop-left l = length l.left
