use Rattle.std.proofs.Common.{◌≡◌, ◌++◌, List, length, take}
use Rattle.homomorphism.specs.declared.assignment.Assignment.{Assignment}
use Rattle.homomorphism.specs.Widening.{taken}
use Rattle.homomorphism.proofs.Choosing.{picked}
use Rattle.homomorphism.proofs.FrontierMatches.{ByFacts}
use Rattle.homomorphism.proofs.frontier.+frontier.Given as goal

abbrev pub decreases-frontier : goal.decreases-frontier
decreases-frontier l = length l.order.now

abbrev pub invariant-loop-number : goal.invariant-loop-number
invariant-loop-number l = record {
  same : l.given.items ≡ l.fn.given.items;
  found : (matches : List Assignment) × (l.found.items ≡ l.fn.found.items ++ matches) × ByFacts (take l.number-index (picked l.store l.number-items)) l.store l.atom (taken l.atoms l.rest) l.head l.fn.given.items matches;
}
