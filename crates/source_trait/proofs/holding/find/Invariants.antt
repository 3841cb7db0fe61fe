use Rattle.std.proofs.Common.{◌≡◌, length}
use Rattle.source_trait.specs.Holding.{attachment_in}
use Rattle.source_trait.proofs.holding.find.Given as goal

abbrev pub invariant-loop-left : goal.invariant-loop-left
invariant-loop-left l = attachment_in l.list l.rel ≡ attachment_in l.left l.rel

abbrev pub decreases-loop-left : goal.decreases-loop-left
decreases-loop-left l = length l.left
