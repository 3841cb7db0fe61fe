use Rattle.std.proofs.Common.{◌≡◌, map, length, take}
use Rattle.homomorphism.proofs.walk.lengths.Given as goal

abbrev pub invariant-loop-list : goal.invariant-loop-list
invariant-loop-list l = l.whole.items ≡ map length (take l.list-index l.lists)
