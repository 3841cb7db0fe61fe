use Rattle.std.proofs.Common.{◌≡◌, length}
use Rattle.data_verify.specs.Keys.{reading}
use Rattle.data_verify.proofs.fitting.reading.Given as goal

abbrev pub invariant-loop-left : goal.invariant-loop-left
invariant-loop-left l = reading l.terms l.row l.variable ≡ reading l.left l.values l.variable

abbrev pub decreases-loop-left : goal.decreases-loop-left
decreases-loop-left l = length l.left
