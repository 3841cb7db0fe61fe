use Rattle.std.proofs.Common.{◌≡◌, map, take, Some}
use Rattle.connected_match.proofs.walk.known.Given as goal

abbrev pub invariant-loop-val : goal.invariant-loop-val
invariant-loop-val l = l.given.items ≡ map Some (take l.val-index l.row)
