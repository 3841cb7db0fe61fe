use Rattle.connected_match.specs.Walks.{IsSeen}
use Rattle.connected_match.proofs.Walking.{Walking}
use Rattle.connected_match.proofs.walk.completes.Given as goal

abbrev pub invariant-loop : goal.invariant-loop
invariant-loop l = Walking l.store l.links (IsSeen l.seen) l.waiting.items
