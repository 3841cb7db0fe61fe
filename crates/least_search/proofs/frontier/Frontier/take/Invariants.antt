use Rattle.std.proofs.Common.{◌≡◌, ◌⊎◌, length}
use Rattle.std.specs.Prelude.{Contains}
use Rattle.least_search.specs.Ways.{Way}
use Rattle.least_search.specs.Frontier.{sets_of, looked_in, waiting_in, IsFrontier, IsAlike}
use Rattle.least_search.proofs.frontier.Frontier.take.Given as goal

-- paths to sets that were looked at wait no more, and nothing else changes
abbrev pub invariant-loop-waiter : goal.invariant-loop-waiter
invariant-loop-waiter l = record {
  sound : IsFrontier l.self;
  alike : IsAlike l.fn.self l.self;
  paths : l.self.paths ≡ l.fn.self.paths;
  looked : l.self.looked ≡ l.fn.self.looked;
  stay : (other : Way) → Contains (waiting_in l.fn.self) other → Contains (waiting_in l.self) other ⊎ Contains (sets_of (looked_in l.fn.self)) other.set;
  only : (other : Way) → Contains (waiting_in l.self) other → Contains (waiting_in l.fn.self) other;
}

abbrev pub decreases-loop-waiter : goal.decreases-loop-waiter
decreases-loop-waiter l = length l.self.waiting
