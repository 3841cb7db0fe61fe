use Rattle.std.proofs.Common.{false, sym, subst}
use Rattle.exposure_search.specs.Tries.{IsMarked}
use Rattle.exposure_search.proofs.Wanting.{keeps_push}
use Rattle.exposure_search.proofs.wanted.lengthen.Goals as goal

pub loop-marks-preserved : goal.loop-marks-preserved
loop-marks-preserved c number on = subst (λ ms. IsMarked ms number) (sym c.in_ok-push.ensures.items) (keeps_push c.loop-marks.marks.items false number (c.loop-marks.invariant number on))
