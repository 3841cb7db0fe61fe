use Rattle.std.proofs.Common.{◌≡◌, length}
use Rattle.source_trait.specs.Outside.{bytes_of}
use Rattle.source_trait.specs.Memory.{entries}
use Rattle.source_trait.proofs.memory_files.find.Given as goal

abbrev pub invariant-loop-left : goal.invariant-loop-left
invariant-loop-left l = bytes_of (entries l.files) l.name ≡ bytes_of (entries l.left) l.name

abbrev pub decreases-loop-left : goal.decreases-loop-left
decreases-loop-left l = length l.left
