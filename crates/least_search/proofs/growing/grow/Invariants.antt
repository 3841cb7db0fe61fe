use Rattle.std.proofs.Common.{◌≡◌}
use Rattle.least_search.specs.Sides.{IsNearSide}
use Rattle.least_search.proofs.growing.grow.Given as goal

abbrev pub invariant-loop-visits : goal.invariant-loop-visits
invariant-loop-visits g l = record {
  back : l.space ≡ l.fn.space;
  near : IsNearSide (g.S.Space.size l.fn.space) (g.S.Space.CanMove l.fn.space) (g.S.Space.HasGoal l.fn.space) l.side;
}

abbrev pub decreases-loop-visits : goal.decreases-loop-visits
decreases-loop-visits g l = l.visits.left
