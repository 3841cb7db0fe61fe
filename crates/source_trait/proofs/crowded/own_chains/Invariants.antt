use Rattle.std.proofs.Common.{◌+◌, length}
use Rattle.source_trait.specs.Index.{AreChainsBelow}
use Rattle.source_trait.proofs.crowded.own_chains.Given as goal

abbrev pub invariant-loop-number : goal.invariant-loop-number
invariant-loop-number l = AreChainsBelow (length l.rows + length l.rows) l.chains
