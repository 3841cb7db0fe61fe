use Rattle.exposure_search.proofs.Wanting.{AreSet}
use Rattle.exposure_search.proofs.wanted.mark_all.Given as goal

abbrev pub invariant-loop-atom : goal.invariant-loop-atom
invariant-loop-atom l = AreSet l.atoms l.atom-index l.fn.marks.items l.marks.items l.grew
