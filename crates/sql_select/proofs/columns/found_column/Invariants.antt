use Rattle.std.proofs.Common.{◌≡◌, ◌+◌, length}
use Rattle.sql_select.specs.Resolving.{found_in}
use Rattle.sql_select.specs.declared.columns.Found.TheVariants as found
use Rattle.sql_select.proofs.columns.found_column.Given as goal

-- those that are left are looked through on from what was found
abbrev pub invariant-loop-left : goal.invariant-loop-left
invariant-loop-left l = record { rest : found_in l.relations l.from l.found l.left l.name ≡ found_in l.relations 0 found.Nothing l.rels l.name; count : l.from + length l.left ≡ length l.rels }

abbrev pub decreases-loop-left : goal.decreases-loop-left
decreases-loop-left l = length l.left
