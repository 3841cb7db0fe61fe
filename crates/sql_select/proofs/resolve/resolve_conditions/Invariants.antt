use Rattle.std.proofs.Common.{◌≡◌, ◌++◌, length}
use Rattle.sql_select.specs.Resolving.{meant_conditions, column_fault, condition_operands}
use Rattle.sql_select.proofs.resolve.resolve_conditions.Given as goal

-- the conditions that were passed, and those that are left
abbrev pub invariant-loop-others : goal.invariant-loop-others
invariant-loop-others l = record {
  done : l.list ++ meant_conditions l.relations l.rels l.froms l.others ≡ meant_conditions l.relations l.rels l.froms l.conditions;
  faults : column_fault l.relations l.rels l.froms l.fault (condition_operands l.others) ≡ column_fault l.relations l.rels l.froms l.fn.first (condition_operands l.conditions);
}

abbrev pub decreases-loop-others : goal.decreases-loop-others
decreases-loop-others l = length l.others
