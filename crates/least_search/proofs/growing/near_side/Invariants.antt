use Rattle.std.proofs.Common.{◌≡◌}
use Rattle.least_search.specs.Sides.{IsNearSide}
use Rattle.least_search.proofs.growing.near_side.Given as goal

abbrev pub invariant-loop : goal.invariant-loop
invariant-loop g l = record {
  back : l.space ≡ l.fn.space;
  near : IsNearSide (g.S.Space.size l.fn.space) (g.S.Space.CanMove l.fn.space) (g.S.Space.HasGoal l.fn.space) l.side;
}
