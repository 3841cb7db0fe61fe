use Rattle.std.proofs.Common.{◌≡◌, length, take}
use Rattle.homomorphism.specs.Widening.{taken}
use Rattle.homomorphism.proofs.Choosing.{picked}
use Rattle.homomorphism.proofs.FactByFact.{NoneAmong}
use Rattle.homomorphism.proofs.extend.+extend.Given as goal

abbrev pub decreases-extend : goal.decreases-extend
decreases-extend l = length l.order.now

abbrev pub invariant-loop-number : goal.invariant-loop-number
invariant-loop-number l = record {
  same : l.given.items ≡ l.fn.given.items;
  none : NoneAmong (take l.number-index (picked l.store l.number-items)) l.store l.atom (taken l.atoms l.rest) l.fn.given.items;
}
