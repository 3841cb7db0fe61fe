use Rattle.std.proofs.Common.{◌≡◌, length}
use Rattle.source_trait.specs.Index.{row_hash}
use Rattle.source_trait.proofs.index.row_hash.Given as goal

-- what is left goes on from the hash so far
abbrev pub invariant-loop-places : goal.invariant-loop-places
invariant-loop-places l = row_hash 0 l.positions l.row ≡ row_hash l.hash l.places l.row

abbrev pub decreases-loop-places : goal.decreases-loop-places
decreases-loop-places l = length l.places
