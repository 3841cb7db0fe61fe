use Rattle.std.proofs.Common.{length}
use Rattle.middleware.specs.WholeAnswer.{AreNew}
use Rattle.middleware.proofs.whole_answer.are_new.Given as goal

-- the places are new where those that are left are
abbrev pub invariant-loop-left : goal.invariant-loop-left
invariant-loop-left l = AreNew l.left → AreNew l.places

abbrev pub decreases-loop-left : goal.decreases-loop-left
decreases-loop-left l = length l.left
