use Rattle.std.proofs.Common.{◌≡◌, ◌++◌}
use Rattle.connected_match.specs.Walks.{points_at}
use Rattle.connected_match.proofs.walk.wait_all.Given as goal

abbrev pub invariant-loop-row : goal.invariant-loop-row
invariant-loop-row l = l.waiting.items ≡ l.fn.waiting.items ++ points_at l.place l.yielded
