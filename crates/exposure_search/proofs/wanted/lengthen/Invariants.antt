use Rattle.std.proofs.Common.{◌+◌, ◌-◌, length}
use Rattle.exposure_search.specs.Relevance.{Keeps}
use Rattle.exposure_search.proofs.wanted.lengthen.Given as goal

abbrev pub invariant-loop-marks : goal.invariant-loop-marks
invariant-loop-marks l = Keeps l.fn.marks.items l.marks.items

abbrev pub decreases-loop-marks : goal.decreases-loop-marks
decreases-loop-marks l = l.number + 1 - length l.marks.items
