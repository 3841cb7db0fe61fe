use Rattle.std.proofs.Common.{◌≡◌, map, take}
use Rattle.connected_match.specs.Walks.{kept_of}
use Rattle.connected_match.proofs.walk.kept_rows.Given as goal

abbrev pub invariant-loop-one : goal.invariant-loop-one
invariant-loop-one l = l.rows.items ≡ map (kept_of l.kept) (take l.one-index l.found)
