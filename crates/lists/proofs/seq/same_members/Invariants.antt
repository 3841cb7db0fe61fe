use Rattle.std.proofs.Common.{◌≡◌, ◌↔◌, length}
use Rattle.lists.proofs.seq.same_members.Given as goal

abbrev pub invariant-loop-rest : goal.invariant-loop-rest
invariant-loop-rest g l = (l.left ≡ l.right) ↔ (l.rest ≡ l.other)

abbrev pub decreases-loop-rest : goal.decreases-loop-rest
decreases-loop-rest g l = length l.rest
