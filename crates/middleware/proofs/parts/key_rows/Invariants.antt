use Rattle.std.proofs.Common.{◌≡◌, map, take}
use Rattle.middleware.specs.Parts.{key_of}
use Rattle.middleware.proofs.parts.key_rows.Given as goal

abbrev pub invariant-loop-number : goal.invariant-loop-number
invariant-loop-number l = l.list ≡ map (key_of l.positions) (take l.number l.rows)
