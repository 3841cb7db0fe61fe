use Rattle.std.proofs.Common.{◌≡◌, ◌≤◌, replicate, length, false}
use Rattle.connected_match.proofs.order.nothing_placed.Given as goal

abbrev pub invariant-loop : goal.invariant-loop
invariant-loop l = (l.placed.items ≡ replicate l.counter false) × (l.counter ≤ length l.atoms)
