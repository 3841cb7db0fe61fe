use Rattle.std.proofs.Common.{◌≡◌, ◌-◌, ◌<◌, ◌≤◌, true, length}
use Rattle.std.specs.Prelude.{Contains}
use Rattle.meaning.specs.Search.{AreDistinct}
use Rattle.least_search.specs.Ways.{Way}
use Rattle.least_search.specs.Walks.{CanGain}
use Rattle.least_search.specs.Cuts.{sum_of}
use Rattle.least_search.specs.Costs.{CanSpend}
use Rattle.least_search.specs.Frontier.{sets_of, looked_in, waiting_in, IsFrontier}
use Rattle.least_search.proofs.Searched.{IsSearched, IsCounted}
use Rattle.least_search.proofs.search.cheapest.Given as goal

abbrev pub invariant-loop-frontier : goal.invariant-loop-frontier
invariant-loop-frontier g l = record {
  back : l.space ≡ l.fn.space;
  sound : IsFrontier l.frontier;
  facts : l.frontier.facts ≡ g.S.Space.size l.fn.space;
  cuts : l.frontier.cuts.now ≡ l.cuts;
  bound : l.frontier.bound ≡ l.bound;
  searched : IsSearched (g.S.Space.size l.fn.space) (g.S.Space.CanMove l.fn.space) (CanGain (g.S.Space.CanMove l.fn.space) (g.S.Space.Gains l.fn.space)) (g.S.Space.HasGoal l.fn.space) l.cuts l.bound l.long (looked_in l.frontier) (waiting_in l.frontier);
  long : l.long ≡ true → g.S.Space.HasLongRun l.fn.space;
  distinct : AreDistinct (sets_of (looked_in l.frontier));
  counted : IsCounted (g.S.Space.HasRun l.fn.space) (length (looked_in l.frontier)) l.units;
  units : l.units ≤ l.search;
  low : (way : Way) → Contains (looked_in l.frontier) way → sum_of l.cuts way < l.bound;
  spend : CanSpend (g.S.Space.HasRun l.fn.space) (looked_in l.frontier) l.units;
}

abbrev pub decreases-loop-frontier : goal.decreases-loop-frontier
decreases-loop-frontier g l = l.search - l.units
