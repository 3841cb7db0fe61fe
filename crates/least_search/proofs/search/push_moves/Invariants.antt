use Rattle.std.proofs.Common.{◌≡◌}
use Rattle.std.specs.Prelude.{take}
use Rattle.least_search.specs.Packing.{packed}
use Rattle.least_search.specs.Frontier.{way_of, looked_in, waiting_in, IsFrontier, IsAlike, IsTakenFrom, ArePushed}
use Rattle.least_search.proofs.search.push_moves.Given as goal

-- the moves so far are pushed
abbrev pub invariant-loop-step : goal.invariant-loop-step
invariant-loop-step l = record {
  sound : IsFrontier l.frontier;
  from : IsTakenFrom l.frontier l.taken;
  alike : IsAlike l.fn.frontier l.frontier;
  looked : looked_in l.frontier ≡ looked_in l.fn.frontier;
  key : l.key ≡ packed l.taken.node.set.items;
  pushed : ArePushed l.fn.frontier.cuts.now l.fn.frontier.bound (way_of l.taken.node) (take l.step-index l.moves) (looked_in l.fn.frontier) (waiting_in l.fn.frontier) (waiting_in l.frontier);
}
