use Rattle.std.proofs.Common.{◌≡◌, length}
use Rattle.sql_select.specs.Limits.{has_more}
use Rattle.sql_select.proofs.limits.has_more.Given as goal

-- what is left decides
abbrev pub invariant-loop-left : goal.invariant-loop-left
invariant-loop-left l = has_more l.kind l.most l.left ≡ has_more l.kind l.most l.raws

abbrev pub decreases-loop-left : goal.decreases-loop-left
decreases-loop-left l = length l.left
