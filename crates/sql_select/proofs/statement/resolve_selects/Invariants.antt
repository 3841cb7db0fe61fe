use Rattle.std.proofs.Common.{◌++◌, List, length}
use Rattle.std.specs.List.{AllByRecursion, AllZip}
use Rattle.meaning.specs.declared.types.Select.{Select}
use Rattle.sql_select.specs.declared.named.NameFault.{NameFault}
use Rattle.sql_select.specs.Limits.{IsWithinLimits}
use Rattle.sql_select.specs.Spanning.{SelectStands}
use Rattle.sql_select.specs.Statements.{Means, IsFirstNameFault}
use Rattle.sql_select.proofs.statement.resolve_selects.Given as goal

-- what those that are left mean goes on from what was meant, and their first fault is that of all
abbrev pub invariant-loop-left : goal.invariant-loop-left
invariant-loop-left l = record {
  stand : AllByRecursion (SelectStands l.text) l.left;
  within : AllByRecursion IsWithinLimits l.left;
  means : (more : List Select) → AllZip (Means l.relations l.text) l.left more → AllZip (Means l.relations l.text) l.raws (l.selects ++ more);
  faults : (f : NameFault) → IsFirstNameFault l.relations l.text l.left f → IsFirstNameFault l.relations l.text l.raws f;
}

abbrev pub decreases-loop-left : goal.decreases-loop-left
decreases-loop-left l = length l.left
