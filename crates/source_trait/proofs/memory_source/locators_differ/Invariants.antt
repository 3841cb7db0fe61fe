use Rattle.std.proofs.Common.{◌↔◌, length}
use Rattle.source_trait.specs.Tables.{LocatorsDiffer}
use Rattle.source_trait.proofs.memory_source.locators_differ.Given as goal

abbrev pub invariant-loop-left : goal.invariant-loop-left
invariant-loop-left l = LocatorsDiffer l.tables ↔ LocatorsDiffer l.left

abbrev pub decreases-loop-left : goal.decreases-loop-left
decreases-loop-left l = length l.left
