use Rattle.std.proofs.Common.{length}
use Rattle.homomorphism.proofs.Noting.{Striking}
use Rattle.homomorphism.proofs.key_lists.KeyLists.strike_all.Given as goal

abbrev pub invariant-loop-val : goal.invariant-loop-val
invariant-loop-val l = Striking l.positions l.fn.fact l.vals.items l.number l.fn.self l.self

abbrev pub decreases-loop-val : goal.decreases-loop-val
decreases-loop-val l = length l.vals.items
