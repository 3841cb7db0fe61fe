use Rattle.std.proofs.Common.{◌≡◌, ◌++◌, length, map}
use Rattle.std.specs.List.{AllByRecursion}
use Rattle.sql_select.specs.Spanning.{FromStands}
use Rattle.sql_select.specs.Naming.{named_from}
use Rattle.sql_select.proofs.naming.named_froms.Given as goal

-- those that are done, and those that are left
abbrev pub invariant-loop-left : goal.invariant-loop-left
invariant-loop-left l = record { stand : AllByRecursion (FromStands l.text) l.left; done : l.list ++ map (named_from l.text) l.left ≡ map (named_from l.text) l.froms }

abbrev pub decreases-loop-left : goal.decreases-loop-left
decreases-loop-left l = length l.left
