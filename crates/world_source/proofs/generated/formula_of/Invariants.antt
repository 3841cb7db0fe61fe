use Rattle.std.proofs.Common.{◌≡◌, length}
use Rattle.source_trait.specs.Holding.{attachment_in}
use Rattle.world_source.specs.Generated.{attachments_of}
use Rattle.world_source.proofs.generated.formula_of.Given as goal

abbrev pub invariant-loop-left : goal.invariant-loop-left
invariant-loop-left l = attachment_in (attachments_of l.list) l.rel ≡ attachment_in (attachments_of l.left) l.rel

abbrev pub decreases-loop-left : goal.decreases-loop-left
decreases-loop-left l = length l.left
