use Rattle.std.proofs.Common.{◌≡◌, ◌≤◌, replicate}
use Rattle.connected_match.proofs.chain.all_at.Given as goal

abbrev pub invariant-loop : goal.invariant-loop
invariant-loop l = (l.firsts.items ≡ replicate l.counter l.place) × (l.counter ≤ l.width)
