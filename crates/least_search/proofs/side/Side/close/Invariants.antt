use Rattle.least_search.specs.Sides.{IsSide}
use Rattle.least_search.proofs.side.Side.close.Given as goal

abbrev pub invariant-loop : goal.invariant-loop
invariant-loop g l = IsSide (g.S.Space.size l.space) (g.S.Space.CanMove l.space) l.self
