use Rattle.std.proofs.Common.{◌≡◌, ◌+◌, length}
use Rattle.sql_select.specs.Resolving.{place_from}
use Rattle.sql_select.proofs.columns.column_place.Given as goal

-- the place is counted on from those that were passed
abbrev pub invariant-loop-left : goal.invariant-loop-left
invariant-loop-left l = record { rest : place_from l.number l.left l.name ≡ place_from 0 l.columns l.name; count : l.number + length l.left ≡ length l.columns }

abbrev pub decreases-loop-left : goal.decreases-loop-left
decreases-loop-left l = length l.left
