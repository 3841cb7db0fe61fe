use Rattle.std.proofs.Common.{[], map, take}
use Rattle.middleware.specs.Branches.{HasAdded}
use Rattle.middleware.proofs.by_request.rows_once.Given as goal

-- the rows of the members so far were added
abbrev pub invariant-loop-member : goal.invariant-loop-member
invariant-loop-member l = HasAdded [] (map (λ m. m.row) (take l.member-index l.members)) l.list
