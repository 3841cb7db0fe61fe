use Rattle.std.proofs.Common.{◌≡◌, length}
use Rattle.plan_form.specs.declared.progress.Progress.TheVariants.{Opening}
use Rattle.plan_form.specs.Reading.{progress_from}
use Rattle.plan_form.proofs.read.lines_progress.Given as goal

abbrev pub invariant-loop-left : goal.invariant-loop-left
invariant-loop-left l = progress_from Opening l.lines ≡ progress_from l.done l.left

abbrev pub decreases-loop-left : goal.decreases-loop-left
decreases-loop-left l = length l.left
