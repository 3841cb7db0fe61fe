use Rattle.std.proofs.Common.{◌≡◌, length}
use Rattle.access_schema.specs.Lists.{is_among}
use Rattle.sql_select.specs.Names.{from_names}
use Rattle.sql_select.proofs.resolve.is_used.Given as goal

-- none that was passed has the name
abbrev pub invariant-loop-left : goal.invariant-loop-left
invariant-loop-left l = is_among (from_names l.left) l.name ≡ is_among (from_names l.froms) l.name

abbrev pub decreases-loop-left : goal.decreases-loop-left
decreases-loop-left l = length l.left
