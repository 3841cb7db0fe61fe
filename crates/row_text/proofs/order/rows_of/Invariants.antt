use Rattle.std.proofs.Common.{◌≡◌, map, take}
use Rattle.row_text.proofs.order.rows_of.Given as goal

-- the rows are those of the members so far
abbrev pub invariant-loop-member : goal.invariant-loop-member
invariant-loop-member l = l.rows ≡ map (λ m. m.row) (take l.member-index l.members)
