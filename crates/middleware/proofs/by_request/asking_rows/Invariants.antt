use Rattle.std.proofs.Common.{◌≡◌, map, take}
use Rattle.middleware.proofs.by_request.asking_rows.Given as goal

-- the members are the rows so far
abbrev pub invariant-loop-number : goal.invariant-loop-number
invariant-loop-number l = map (λ m. m.row) l.members.items ≡ take l.number l.rows
