use Rattle.std.proofs.Common.{◌≡◌, length}
use Rattle.tgd_reader.specs.Version.{behind_version}
use Rattle.tgd_reader.proofs.version.lines_behind.Given as goal

abbrev pub invariant-loop-left : goal.invariant-loop-left
invariant-loop-left l = behind_version l.lines ≡ behind_version l.left

abbrev pub decreases-loop-left : goal.decreases-loop-left
decreases-loop-left l = length l.left
