use Rattle.std.proofs.Common.{◌≡◌, length}
use Rattle.explain.specs.declared.progress.Progress.TheVariants.{Opening}
use Rattle.explain.specs.Reading.{progress_from}
use Rattle.explain.proofs.read.lines_progress.Given as goal

abbrev pub invariant-loop-left : goal.invariant-loop-left
invariant-loop-left l = progress_from l.schema Opening l.lines ≡ progress_from l.schema l.done l.left

abbrev pub decreases-loop-left : goal.decreases-loop-left
decreases-loop-left l = length l.left
