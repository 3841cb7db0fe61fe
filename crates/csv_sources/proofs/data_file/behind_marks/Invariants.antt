use Rattle.std.proofs.Common.{◌≡◌, length}
use Rattle.csv_sources.specs.DataFile.{after_marks}
use Rattle.csv_sources.proofs.data_file.behind_marks.Given as goal

abbrev pub invariant-loop-left : goal.invariant-loop-left
invariant-loop-left l = after_marks l.bytes ≡ after_marks l.left

abbrev pub decreases-loop-left : goal.decreases-loop-left
decreases-loop-left l = length l.left
