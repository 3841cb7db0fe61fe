use Rattle.std.proofs.Common.{◌↔◌, length}
use Rattle.data_verify.specs.Inclusion.{Fits}
use Rattle.data_verify.proofs.fitting.fits.Given as goal

abbrev pub invariant-loop-left : goal.invariant-loop-left
invariant-loop-left l = Fits l.terms l.row ↔ Fits l.left l.values

abbrev pub decreases-loop-left : goal.decreases-loop-left
decreases-loop-left l = length l.left
