use Rattle.std.proofs.Common.{◌≡◌}
use Rattle.least_search.proofs.Cutting.{AreFound}
use Rattle.least_search.proofs.cuts.find_cuts.Given as goal

-- the cuts so far have no goal, and the moves paid for them
abbrev pub invariant-loop-wanted : goal.invariant-loop-wanted
invariant-loop-wanted g l = record {
  back : l.space ≡ l.fn.space;
  found : AreFound (g.S.Space.size l.fn.space) (g.S.Space.CanMove l.fn.space) (g.S.Space.HasGoal l.fn.space) l.cuts.items l.residues.items;
}

abbrev pub decreases-loop-wanted : goal.decreases-loop-wanted
decreases-loop-wanted g l = l.wanted
