use Rattle.std.proofs.Common.{◌≡◌, map, take}
use Rattle.homomorphism.specs.Bindings.{at}
use Rattle.connected_match.proofs.walk.kept_row.Given as goal

abbrev pub invariant-loop-place : goal.invariant-loop-place
invariant-loop-place l = l.row.items ≡ map (at l.found.vals) (take l.place-index l.kept)
