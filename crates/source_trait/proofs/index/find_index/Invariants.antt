use Rattle.std.proofs.Common.{◌≡◌, length}
use Rattle.source_trait.specs.Index.{index_in}
use Rattle.source_trait.proofs.index.find_index.Given as goal

abbrev pub invariant-loop-left : goal.invariant-loop-left
invariant-loop-left l = index_in l.indexes l.rel l.positions ≡ index_in l.left l.rel l.positions

abbrev pub decreases-loop-left : goal.decreases-loop-left
decreases-loop-left l = length l.left
