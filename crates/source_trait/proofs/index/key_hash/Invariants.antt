use Rattle.std.proofs.Common.{◌≡◌, length}
use Rattle.source_trait.specs.Index.{key_hash}
use Rattle.source_trait.proofs.index.key_hash.Given as goal

-- what is left goes on from the hash so far
abbrev pub invariant-loop-places : goal.invariant-loop-places
invariant-loop-places l = key_hash 0 l.positions l.values ≡ key_hash l.hash l.places l.wanted

abbrev pub decreases-loop-places : goal.decreases-loop-places
decreases-loop-places l = length l.places
