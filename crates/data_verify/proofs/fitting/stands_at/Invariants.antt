use Rattle.std.proofs.Common.{◌↔◌, length}
use Rattle.data_verify.specs.Inclusion.{StandsAt}
use Rattle.data_verify.proofs.fitting.stands_at.Given as goal

abbrev pub invariant-loop-left : goal.invariant-loop-left
invariant-loop-left l = StandsAt l.variable l.value l.terms l.row ↔ StandsAt l.variable l.value l.left l.values

abbrev pub decreases-loop-left : goal.decreases-loop-left
decreases-loop-left l = length l.left
