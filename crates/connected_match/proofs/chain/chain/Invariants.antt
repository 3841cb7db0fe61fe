use Rattle.std.proofs.Common.{length}
use Rattle.connected_match.proofs.Chaining.{Chaining}
use Rattle.connected_match.proofs.chain.chain.Given as goal

-- the links of the atoms that are not left
abbrev pub invariant-loop-atom : goal.invariant-loop-atom
invariant-loop-atom l = Chaining l.given l.firsts.items l.fn.atoms.items l.left.items l.next.items l.links.items

abbrev pub decreases-loop-atom : goal.decreases-loop-atom
decreases-loop-atom l = length l.left.items
