use Rattle.std.proofs.Common.{◌↔◌, length}
use Rattle.source_trait.specs.Outside.{NamesDiffer}
use Rattle.source_trait.specs.Memory.{entries}
use Rattle.source_trait.proofs.memory_files.names_differ.Given as goal

abbrev pub invariant-loop-left : goal.invariant-loop-left
invariant-loop-left l = NamesDiffer (entries l.files) ↔ NamesDiffer (entries l.left)

abbrev pub decreases-loop-left : goal.decreases-loop-left
decreases-loop-left l = length l.left
