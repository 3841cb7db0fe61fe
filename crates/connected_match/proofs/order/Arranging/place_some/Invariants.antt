use Rattle.connected_match.specs.Orders.{IsArranging}
use Rattle.connected_match.proofs.order.Arranging.place_some.Given as goal

abbrev pub invariant-loop-number : goal.invariant-loop-number
invariant-loop-number l = IsArranging l.atoms l.self
