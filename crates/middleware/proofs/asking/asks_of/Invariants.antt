use Rattle.std.proofs.Common.{◌≡◌, map, take}
use Rattle.middleware.specs.LaneAsking.{ask_of}
use Rattle.middleware.proofs.asking.asks_of.Given as goal

abbrev pub invariant-loop-number : goal.invariant-loop-number
invariant-loop-number l = l.asks.items ≡ map (ask_of l.kind l.method) (take l.number l.requests)
