use Rattle.std.proofs.Common.{ℕ, ◌<◌}
use Rattle.connected_match.specs.Orders.{IsPlaced, IsArranging}
use Rattle.connected_match.proofs.order.Arranging.place_all.Given as goal

-- the atoms of the numbers so far are placed
abbrev pub invariant-loop-number : goal.invariant-loop-number
invariant-loop-number l = record {
  arranging : IsArranging l.atoms l.self;
  placed : (k : ℕ) → k < l.number → IsPlaced l.self k;
}
