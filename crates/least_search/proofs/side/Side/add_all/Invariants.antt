use Rattle.least_search.specs.Sides.{IsSide}
use Rattle.least_search.proofs.side.Side.add_all.Given as goal

abbrev pub invariant-loop-residue : goal.invariant-loop-residue
invariant-loop-residue g l = IsSide (g.S.Space.size l.space) (g.S.Space.CanMove l.space) l.self
